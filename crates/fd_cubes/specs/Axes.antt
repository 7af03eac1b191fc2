-- The values of one name among keywords, and the texts by which keywords are found that can be joined.
use Rattle.std.specs.Prelude.{◌≡◌, ◌<◌, ◌+◌, ℕ, zero, suc, List, [], ◌∷◌, ◌++◌, length, map, string_bytes}
use Rattle.std.specs.List.{All}
use Rattle.std.specs.List.Sorted.{IsPermutation, IsSortedBy}
use Rattle.std.specs.Ordering.{is_lt}
use Rattle.fd_spelling.specs.Texts.{texts}
use Rattle.fd_request.specs.Expansion.{Keyword}
use Rattle.fd_cubes.specs.declared.axis.Axis as code_axis
use Rattle.fd_cubes.specs.Cubes.{IsPlain, order}

-- ---- one name's values

-- these values in the place of those of the name at a place
abbrev pub with_values : ℕ → List (List ℕ) → List Keyword → List Keyword
with_values p vs [] = []
with_values zero vs (k ∷ ks) = record { name = k.name; values = vs } ∷ ks
with_values (suc p) vs (k ∷ ks) = k ∷ with_values p vs ks

-- the values of the name at a place
abbrev pub values_at : ℕ → List Keyword → List (List ℕ)
values_at p [] = []
values_at zero (k ∷ ks) = k.values
values_at (suc p) (k ∷ ks) = values_at p ks

-- the two differ at most in the values of the name at a place
abbrev pub SameBut : ℕ → List Keyword → List Keyword → Type 0
SameBut p ks ls = with_values p [] ks ≡ with_values p [] ls

-- how many bytes values have, each with a mark
abbrev pub width : List (List ℕ) → ℕ
width [] = 0
width (v ∷ vs) = length v + 1 + width vs

-- a name with one plain value or more
pub record IsFilled (k : Keyword) : Type 0 where
  pub some : 0 < length k.values
  pub plain : All (IsPlain k.name) k.values

-- the same name with the same values in another order
pub record IsReordered (k l : Keyword) : Type 0 where
  pub name : k.name ≡ l.name
  pub values : IsPermutation k.values l.values

-- ---- texts from which keywords can be told

-- each value with a slash behind it
abbrev pub values_code : List (List ℕ) → List ℕ
values_code [] = []
values_code (v ∷ vs) = v ++ 47 ∷ values_code vs

-- each keyword as its name, `=`, its values and a comma
abbrev pub code : List Keyword → List ℕ
code [] = []
code (k ∷ ks) = k.name ++ 61 ∷ (values_code k.values ++ 44 ∷ code ks)

-- ---- what the code's names with values are

abbrev pub seen_axis : code_axis.Axis → Keyword
seen_axis a = record { name = string_bytes a.name; values = texts a.values.items }

abbrev pub seen_axes : List code_axis.Axis → List Keyword
seen_axes xs = map seen_axis xs

-- ---- values in byte order

abbrev pub AreSorted : List (List ℕ) → Type 0
AreSorted vs = IsSortedBy (λ v w. is_lt (order v w)) vs
