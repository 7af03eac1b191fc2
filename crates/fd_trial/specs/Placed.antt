-- The places of messages that are made up.
use Rattle.std.specs.Prelude.{◌≡◌, ◌+◌, ℕ, List, [], ◌∷◌, Some, Ok}
use Rattle.fd_key.specs.Pairs.{Pair}
use Rattle.fd_key.specs.Keys.{key_of}
use Rattle.fd_schema.specs.Rules.{Rule, Texts, place_from}
use Rattle.fd_gen.specs.Generated.{generated_sections}

-- the message of this number has this place
abbrev pub IsPlacedAt : List Rule → List Pair → ℕ → Texts → Type 0
IsPlacedAt rules given i place = (key : List Pair) × (key_of (generated_sections i) given ≡ Ok key) × (place_from 0 rules key ≡ Some place)

-- the messages from this number on have these places
abbrev pub ArePlaced : List Rule → List Pair → ℕ → List Texts → Type 0
ArePlaced rules given next [] = Unit {0}
ArePlaced rules given next (p ∷ ps) = IsPlacedAt rules given next p × ArePlaced rules given (next + 1) ps
