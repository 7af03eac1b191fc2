-- The keys of a request: the product of its value lists in the order of the text, as MARS expands a request.
use Rattle.std.specs.Prelude.{ℕ, List, [], ◌∷◌, ◌++◌, map}
use Rattle.fd_key.specs.Pairs.{Pair}

-- a keyword: a name with its values in their order, repeats kept
pub record Keyword : Type 0 where
  pub name : List ℕ
  pub values : List (List ℕ)

-- each value in order, put before each of the keys of the other keywords
unfoldable pub each_before : List ℕ → List (List ℕ) → List (List Pair) → List (List Pair)
each_before name [] others = []
each_before name (v ∷ vs) others = map (λ key. (name, v) ∷ key) others ++ each_before name vs others

-- no keywords have one key, the empty one; the last keyword is fastest
unfoldable pub expand : List Keyword → List (List Pair)
expand [] = [] ∷ []
expand (k ∷ ks) = each_before k.name k.values (expand ks)
