-- Segments that are shared.
use Rattle.std.specs.Prelude.{◌≡◌, ℕ, List, map, All}
use Rattle.std.specs.declared.sync.Arc.{Arc}
use Rattle.std.specs.Arc.{arc_value}
use Rattle.fd_entries.specs.declared.table.Entry.{Entry}
use Rattle.fd_segment.specs.Held.{Standing}

-- the segments are of the dataset with this text
abbrev pub AreAbout : List ℕ → List Standing → Type 0
AreAbout name ss = All (λ (s : Standing). s.dataset ≡ name) ss

module _ {A : Type 0} where
  abbrev pub entry_of : Arc Standing A → Entry
  entry_of a = (arc_value a).files.entry

  abbrev pub entries : List (Arc Standing A) → List Entry
  entries xs = map entry_of xs

  -- what contracts see of the segments
  abbrev pub standings : List (Arc Standing A) → List Standing
  standings xs = map arc_value xs

  -- shared segments are of the dataset with this text
  abbrev pub AreOf : List ℕ → List (Arc Standing A) → Type 0
  AreOf name xs = All (λ (a : Arc Standing A). (arc_value a).dataset ≡ name) xs
