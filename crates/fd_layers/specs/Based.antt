-- The place of a key with a layer's values in place of its own.
use Rattle.std.specs.Prelude.{◌≡◌, ◌==◌, ◌&&◌, ℕ, Bool, true, List, [], map, is_some, Option, Some, None, Result, Ok, Err, if◌then◌else◌}
use Rattle.std.specs.List.{list_all}
use Rattle.std.specs.Str.{bytes_eq}
use Rattle.fd_key.specs.Pairs.{Pair, text_of}
use Rattle.fd_key.specs.Given.{given_of}
use Rattle.fd_request.specs.Spelled.{AreValues}
use Rattle.fd_schema.specs.declared.place.Place.{Place}
use Rattle.fd_schema.specs.Rules.{Rule, Texts, file_key, place_from}
use Rattle.fd_schema.specs.Reading.{seen_place}
use Rattle.fd_layers.specs.declared.fault.LayerFault.{LayerFault}
use Rattle.fd_layers.specs.declared.fault.LayerFault.TheVariants as faults

-- the pairs that are read of a text are values
abbrev pub GivenAreValues : Type 0
GivenAreValues = (text : List ℕ) (pairs : List Pair) → given_of text ≡ Ok pairs → AreValues pairs

-- ---- the key under a layer

-- the layer's value, where it has one, or else the key's own
abbrev pub or_own : Option (List ℕ) → List ℕ → List ℕ
or_own (Some value) own = value
or_own None own = own

-- the key with the layer's values in place of its own
abbrev pub under : List Pair → List Pair → List Pair
under layer key = map (λ p. (p.0, or_own (text_of layer p.0) p.1)) key

-- the key has each name of the layer
abbrev pub has_names : List Pair → List Pair → Bool
has_names key layer = list_all (λ p. is_some (text_of key p.0)) layer

-- two places of one rule, with one key in the files
abbrev pub is_same_home : Texts → Texts → Bool
is_same_home own other = (own.rule == other.rule) && bytes_eq (file_key own) (file_key other)

-- the other place, where it has the rule of the key's own, and the same key in the files
abbrev pub where_same : Option Texts → Option Texts → Option Texts
where_same (Some own) (Some other) = if is_same_home own other then Some other else None
where_same (Some own) None = None
where_same None other = None

-- The place of the key with the layer's values in place of its own: where the key has each name of the layer, and the place
-- has the rule of the key's own, and the same key in the files.
abbrev pub based : List Rule → List Pair → List Pair → Option Texts
based rules key layer = if has_names key layer then where_same (place_from 0 rules key) (place_from 0 rules (under layer key)) else None

-- What a call answered is this place, or there is none. It may also have run out of memory.
abbrev pub GivesBased : Result Place LayerFault → Option Texts → Type 0
GivesBased (Ok place) found = found ≡ Some (seen_place place)
GivesBased (Err faults.Layer) found = found ≡ None
GivesBased (Err faults.NoMemory) found = Unit {0}
