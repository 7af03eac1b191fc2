-- Which cubes can be joined.
use Rattle.std.specs.Prelude.{◌≡◌, ◌≤◌, ◌↔◌, ℕ, List, ◌∷◌, ◌++◌, length}
use Rattle.std.specs.List.{AllPairs, AllZip, Contains}
use Rattle.fd_request.specs.Expansion.{Keyword}
use Rattle.fd_cubes.specs.Cubes.{cube_text}

-- the same values, in whatever order
abbrev pub SameValues : List (List ℕ) → List (List ℕ) → Type 0
SameValues vs ws = (v : List ℕ) → Contains vs v ↔ Contains ws v

-- the same name with the same values
pub record SameAxis (k l : Keyword) : Type 0 where
  pub name : k.name ≡ l.name
  pub values : SameValues k.values l.values

-- the same names in the same order, each with the same values
abbrev pub SameAxes : List Keyword → List Keyword → Type 0
SameAxes ks ls = AllZip SameAxis ks ls

-- Two cubes that can be joined: they have the same names in the same order, the same values in all but one of them, and the text of
-- the cube with the values of both has at most 65,536 bytes. Cubes that share no key have none of these values in common.
pub record CanJoin (a b : List Keyword) : Type 0 where
  pub before : List Keyword
  pub name : List ℕ
  pub values : List (List ℕ)
  pub behind : List Keyword
  pub other_before : List Keyword
  pub other_values : List (List ℕ)
  pub other_behind : List Keyword
  pub one : a ≡ before ++ record { name = name; values = values } ∷ behind
  pub other : b ≡ other_before ++ record { name = name; values = other_values } ∷ other_behind
  pub same_before : SameAxes before other_before
  pub same_behind : SameAxes behind other_behind
  pub size : length (cube_text (before ++ record { name = name; values = values ++ other_values } ∷ behind)) ≤ 65536

-- neither can be joined to the other
pub record CannotJoin (a b : List Keyword) : Type 0 where
  pub one : CanJoin a b → ⊥
  pub other : CanJoin b a → ⊥

-- no two of the cubes can be joined
abbrev pub NoneCanJoin : List (List Keyword) → Type 0
NoneCanJoin cubes = AllPairs CannotJoin cubes
