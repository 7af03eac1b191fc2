-- What holds of the keys of a request.
use Rattle.std.specs.Prelude.{◌≡◌, true, List, []}
use Rattle.std.specs.List.{All}
use Rattle.fd_spelling.specs.Names.{is_name, is_value}
use Rattle.fd_key.specs.Pairs.{Pair}
use Rattle.fd_key.specs.Given.{differ_after}

-- each text is a value
abbrev pub AreValues : List Pair → Type 0
AreValues pairs = All (λ p. is_value p.1 ≡ true) pairs

-- each name is a name and comes once, and each text is a value
pub record IsSpelled (key : List Pair) : Type 0 where
  pub names : All (λ p. is_name p.0 ≡ true) key
  pub values : AreValues key
  pub once : differ_after [] key ≡ true
