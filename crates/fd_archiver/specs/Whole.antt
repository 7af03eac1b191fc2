-- What holds of every archiver.
use Rattle.std.specs.Prelude.{◌≡◌, ◌≤◌, ◌<◌, ℕ, Bool, true, List, [], Option, None, Some, IfSome, is_some}
use Rattle.fd_disk.specs.declared.folders.FileName.{FileName}
use Rattle.fd_disk.specs.declared.folders.FileKind.TheVariants.{Fields, Index}
use Rattle.fd_disk.specs.Names.{name_of}
use Rattle.fd_entries.specs.declared.batch.Pair.{Pair}
use Rattle.fd_segment.specs.Filling.{Filling, Puts}
use Rattle.fd_segment.specs.Held.{Standing}
use Rattle.fd_archiver.specs.Writing.{IsKept, IsPendingIn}

-- whose drafts these are: the writer, the dataset, whether the shelf tells, the room of each draft, and the greatest
-- sequence number used
pub record Owner : Type 0 where
  pub writer : ℕ
  pub dataset : List ℕ
  pub told : Bool
  pub keys : ℕ
  pub bytes : ℕ
  pub last : ℕ

-- a draft of this owner
pub record IsDraftOf (o : Owner) (d : Filling) : Type 0 where
  pub writer : d.origin.writer ≡ o.writer
  pub dataset : d.origin.dataset ≡ o.dataset
  pub told : d.origin.told ≡ o.told
  pub seq : d.origin.seq ≤ o.last
  pub keys : d.held.keys ≡ o.keys
  pub bytes : d.held.bytes ≡ o.bytes

-- a draft of this owner in which nothing was put, made after that number
pub record IsNextOf (o : Owner) (after : ℕ) (d : Filling) : Type 0 where
  pub draft : IsDraftOf o d
  pub empty : Puts d []
  pub later : after < d.origin.seq

-- a segment that was sealed from a draft of this owner, before the draft of that number was made
pub record IsSegmentOf (o : Owner) (before : ℕ) (s : Standing) : Type 0 where
  pub writer : s.files.entry.writer ≡ o.writer
  pub dataset : s.dataset ≡ o.dataset
  pub index : s.index_made ≡ Some (name_of o.writer s.files.entry.seq Index)
  pub fields : s.fields_made ≡ Some (name_of o.writer s.files.entry.seq Fields)
  pub earlier : s.files.entry.seq < before

-- the draft, the next one, and the segment that waits fit together; some pairs are pending
pub record IsWhole (o : Owner) (draft : Filling) (next : Option Filling) (unlisted : Option Standing) : Type 0 where
  pub draft_of : IsDraftOf o draft
  pub next_of : IfSome next (IsNextOf o draft.origin.seq)
  pub segment_of : IfSome unlisted (IsSegmentOf o draft.origin.seq)
  pub pairs : List Pair
  pub pending : IsPendingIn o.told unlisted draft pairs

-- the shelf created only files of this writer, and none under a number that wasn't used
pub record CreatedBy (writer last : ℕ) (n : FileName) : Type 0 where
  pub writer_is : n.writer ≡ writer
  pub used : n.seq ≤ last

abbrev pub Created : ℕ → ℕ → (FileName → Bool) → Type 0
Created writer last created = (n : FileName) → created n ≡ true → CreatedBy writer last n

abbrev pub KeptIs : Bool → Option (FileName → Option (List ℕ)) → Option Standing → Type 0
KeptIs is_kept kept unlisted = is_kept ≡ true → (s : Standing) → unlisted ≡ Some s → IsKept kept s
