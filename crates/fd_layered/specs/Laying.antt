-- Why a key has no place under a layer.
use Rattle.std.specs.Prelude.{◌≡◌, ℕ, List, Option, None, Result, Err, string_bytes}
use Rattle.fd_key.specs.Pairs.{Pair, key_text}
use Rattle.fd_schema.specs.Rules.{Texts}
use Rattle.fd_telling.specs.declared.stop.Stop.{Stop}
use Rattle.fd_telling.specs.declared.stop.Stop.TheVariants as stops

module _ {F : Type 0} where
  -- the key, whose text this is, has no place under the layer with this number; or want of memory
  abbrev pub LacksOne : Stop F → ℕ → List Pair → Option Texts → Type 0
  LacksOne (stops.NoLayer layer text) n key place = (layer ≡ n) × (place ≡ None) × (string_bytes text ≡ key_text key)
  LacksOne stops.NoMemory n key place = Unit {0}
  LacksOne stop n key place = ⊥

  -- the first layer under which the key has none has this number; or want of memory
  abbrev pub LacksLayer : Stop F → List Pair → Result (List Texts) ℕ → Type 0
  LacksLayer (stops.NoLayer layer text) key places = (places ≡ Err layer) × (string_bytes text ≡ key_text key)
  LacksLayer stops.NoMemory key places = Unit {0}
  LacksLayer stop key places = ⊥
