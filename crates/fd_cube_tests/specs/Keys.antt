-- Keys of two names with two values each.
use Rattle.std.specs.Prelude.{ℕ, List, [], ◌∷◌, ◌++◌, codes}
use Rattle.fd_key.specs.Pairs.{Pair}

abbrev pub key : List ℕ → List ℕ → List Pair
key first second = (codes "a", first) ∷ (codes "b", second) ∷ []

abbrev pub three : List (List Pair)
three = key (codes "2") (codes "x") ∷ key (codes "1") (codes "y") ∷ key (codes "1") (codes "x") ∷ []

abbrev pub four : List (List Pair)
four = three ++ key (codes "2") (codes "y") ∷ []
