-- What the slots of a builder stand for.
use Rattle.std.specs.Prelude.{ℕ, ◌<◌, List, [], length, map, slice_get, unwrap_or}
use Rattle.std.specs.List.{AllByRecursion}
use Rattle.fd_index.specs.declared.slots.Slot.{Slot}
use Rattle.fd_index.specs.Records.{Record}

-- a record, its key being a text of the region
abbrev pub record_of : List (List ℕ) → Slot → Record
record_of texts s = record { key = unwrap_or (slice_get texts s.id.0) []; at = s.at; len = s.len }

abbrev pub records_of : List (List ℕ) → List Slot → List Record
records_of texts ss = map (record_of texts) ss

-- each slot has a text
abbrev pub AreWithin : List (List ℕ) → List Slot → Type 0
AreWithin texts ss = AllByRecursion (λ s. s.id.0 < length texts) ss
