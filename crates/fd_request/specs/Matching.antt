-- The keys that a partial request is for.
use Rattle.std.specs.Prelude.{◌≡◌, ℕ, List, Some}
use Rattle.std.specs.List.{All, Contains}
use Rattle.fd_key.specs.Pairs.{Pair, text_of}
use Rattle.fd_request.specs.Expansion.{Keyword}

-- the key has the keyword's name, with one of the keyword's values
pub record Admits (key : List Pair) (keyword : Keyword) : Type 0 where
  pub value : List ℕ
  pub has : text_of key keyword.name ≡ Some value
  pub listed : Contains keyword.values value

-- each of the keywords admits the key
abbrev pub Matches : List Keyword → List Pair → Type 0
Matches keywords key = All (Admits key) keywords
