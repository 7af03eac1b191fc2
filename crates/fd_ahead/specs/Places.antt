-- Where fields stand in datasets that are open.
use Rattle.std.specs.Prelude.{◌≡◌, ◌<◌, ◌-◌, ◌⊎◌, ℕ, List, length, Option, Some, IfSome, slice_get, slice_index_or}
use Rattle.fd_segment.specs.declared.fault.Damage.{Damage}
use Rattle.fd_segment.specs.Causes.{IsBadFrame, IsBadIndex, IsFieldDamage}
use Rattle.fd_segment.specs.Held.{Standing}
use Rattle.fd_retriever.specs.Kept.{AreThose, Kept}
use Rattle.fd_finding.specs.Spots.{IsWithin}
use Rattle.fd_ahead.specs.declared.located.Located.{Located}

-- a dataset that was opened: its text, and the segments of the table's entries
pub record Open : Type 0 where
  pub name : List ℕ
  pub shown : List Standing

-- The bytes stand within a segment of one of the datasets.
pub record IsIn (os : List Open) (l : Located) : Type 0 where
  pub dataset : Open
  pub at : slice_get os l.number ≡ Some dataset
  pub within : IsWithin dataset.shown l.spot

-- the same of each key that is located
abbrev pub AreIn : List Open → List (Option Located) → Type 0
AreIn os located = (k : ℕ) (d : Option Located) → k < length located → IfSome (slice_index_or located k d) (IsIn os)

-- what holds of the segment in which the bytes stand
abbrev pub InSegment : List Open → Located → (Standing → Type 0) → Type 0
InSegment os l P = IfSome (slice_get os l.number) (λ o. IfSome (slice_get o.shown (l.spot.number - 1)) P)

-- The damage is met where the bytes are read: the first eight bytes or the footer of the segment's index aren't in the
-- format, or behind the bytes stands another digest than theirs.
abbrev pub IsMetAt : Located → Damage → Standing → Type 0
IsMetAt l d s = (IsBadIndex s.files.entry s.files.index d × IsBadFrame s.files.entry s.files.index d) ⊎ IsFieldDamage s.files.entry s.files.fields l.spot.at l.spot.len d

-- the number of a dataset, and which of its segments are open for reading
pub record Keeping : Type 0 where
  pub number : ℕ
  pub kept : List Kept

-- what is open for reading reads the dataset's own files
abbrev pub Keeps : List Open → Option Keeping → Type 0
Keeps os k = IfSome k (λ c. IfSome (slice_get os c.number) (λ o. AreThose c.kept o.shown))
