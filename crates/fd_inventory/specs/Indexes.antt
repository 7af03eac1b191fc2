-- The indexes of the segments of a snapshot, and what ends their reading.
use Rattle.std.specs.Prelude.{◌≡◌, List, map, Some, Contains}
use Rattle.fd_entries.specs.declared.batch.Listing.{Listing}
use Rattle.fd_entries.specs.declared.batch.Pair.{Pair}
use Rattle.fd_segment.specs.declared.fault.Damage.{Damage}
use Rattle.fd_segment.specs.declared.fault.LensFault.{LensFault}
use Rattle.fd_segment.specs.declared.fault.LensFault.TheVariants as lenses
use Rattle.fd_segment.specs.Causes.{IsBadIndex}
use Rattle.fd_segment.specs.Held.{Standing}
use Rattle.fd_inventory.specs.declared.fault.LinesFault.{LinesFault}
use Rattle.fd_inventory.specs.declared.fault.LinesFault.TheVariants as lines

-- the batches that the listings stand for, where each has one
abbrev pub Tells : List Listing → List (List Pair) → Type 0
Tells ls t = map (λ l. l.batch) ls ≡ map (λ b. Some b) t

-- one of the segments has an index that isn't in its format, where told, at the place that the damage names
abbrev pub IsAmongBad : List Standing → Damage → Type 0
IsAmongBad segments d = (s : Standing) × Contains segments s × IsBadIndex s.files.entry s.files.index d

-- the lines end with what ended the reading of an index
abbrev pub IsOfLens : {F X : Type 0} → LensFault F → LinesFault F X → Type 0
IsOfLens (lenses.Fault f) e = e ≡ lines.Disk f
IsOfLens (lenses.Damaged d) e = e ≡ lines.Damaged d
IsOfLens lenses.NoMemory e = e ≡ lines.NoMemory

-- what holds of damage that is told
abbrev pub OnLines : {F X : Type 0} → LinesFault F X → (Damage → Type 0) → Type 0
OnLines (lines.Disk f) P = Unit {0}
OnLines (lines.Write x) P = Unit {0}
OnLines (lines.Damaged d) P = P d
OnLines lines.NoMemory P = Unit {0}
