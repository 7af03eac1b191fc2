-- How far a worker has come in a dataset.
use Rattle.std.specs.Prelude.{◌≡◌, ◌⊎◌, ◌≤◌, ◌<◌, ◌+◌, ◌-◌, ◌*◌, ◌^◌, ◌++◌, ℕ, List, [], ◌∷◌, length, slice_get, Option, Some, None, is_some, Result, Ok, Err}
use mathlib.Core.List.{IsPrefix}
use Rattle.fd_disk.specs.declared.folders.FileName.{FileName}
use Rattle.fd_entries.specs.declared.batch.Listing.{Listing}
use Rattle.fd_entries.specs.declared.batch.Pair.{Pair}
use Rattle.fd_segment.specs.Filling.{stored}
use Rattle.fd_entries.specs.Table.{greatest_writer}
use Rattle.fd_segment.specs.Held.{Standing}
use Rattle.fd_turn.specs.declared.view.Lock.TheVariants.{Free}
use Rattle.fd_turn.specs.Views.{View}
use Rattle.fd_dataset.specs.Listed.{listing}
use Rattle.fd_archiver.specs.Writing.{IsKept, IsPending, IsSealedFrom, Writing, number_of}
use Rattle.fd_archiver.specs.declared.fault.ArchiveFault.{ArchiveFault}
use Rattle.fd_archiver.specs.declared.fault.ArchiveFault.TheVariants as archives
use Rattle.fd_archiver.specs.declared.fault.FlushFault.{FlushFault}
use Rattle.fd_archiver.specs.declared.fault.FlushFault.TheVariants as flushes
use Rattle.fd_shares.specs.Merging.{Rise}

-- Where a worker stands in a dataset: its archiver fills a batch; the batch was listed since it was full; all was listed;
-- or a call was refused, after which nothing more is stored.
pub data Stage : Type 0 where
  Filling : Stage
  Emptied : Stage
  Flushed : Stage
  Stopped : Stage

-- a batch that was listed: the pairs that were put into it, and its segment
pub record Sealing : Type 0 where
  pub pairs : List Pair
  pub segment : Standing

-- the pairs of the batches, one after the other; each batch comes with the number of its entry
abbrev pub pairs_in : List (ℕ × Sealing) → List Pair
pairs_in [] = []
pairs_in (r ∷ rs) = r.1.pairs ++ pairs_in rs

-- what each step leaves of a pass
pub record Keeps (v w : View) : Type 0 where
  pub seen : IsPrefix v.history w.history
  pub parts : w.parts ≡ v.parts
  pub opening : w.opening ≡ v.opening
  pub subject : w.subject ≡ v.subject
  pub free : w.lock ≡ v.lock

module _ {H : Type 0} where
  -- a sealed segment waits to be listed
  abbrev pub HasSealed : Writing H → Type 0
  HasSealed w = (s : Standing) × (w.unlisted ≡ Some s)

  -- what each step leaves of an archiver
  pub record StaysOf (w x : Writing H) : Type 0 where
    pub writer : x.writer ≡ w.writer
    pub dataset : x.dataset ≡ w.dataset
    pub told : x.told ≡ w.told

  -- the archiver's batch is full: it has at least 512 pairs
  abbrev pub IsFilled : Writing H → Type 0
  IsFilled w = (b : List Pair) → IsPending w b → 512 ≤ length b

  -- How many batches are listed, of how many pairs, and what is pending. Each batch but a last one has at least 512 pairs.
  -- An archiver that fills a batch has used one sequence number more than it has listed.
  abbrev pub IsAtStage : Stage → Writing H → ℕ → ℕ → List Pair → Type 0
  IsAtStage Filling w count size pending = (w.unlisted ≡ None) × (w.last ≤ 1 + count) × (512 * count ≤ size)
  IsAtStage Emptied w count size pending = (w.unlisted ≡ None) × (w.last ≤ 1 + count) × (512 * count ≤ size) × (pending ≡ [])
  IsAtStage Flushed w count size pending = (512 * count ≤ size + 512) × (pending ≡ [])
  IsAtStage Stopped w count size pending = 512 * count ≤ size + 512

  module _ (kept : H → Option (FileName → Option (List ℕ))) where
    -- The segment that waits may be listed: it came to its listing, so that the shelf keeps its files. Each batch that was
    -- listed before has at least 512 pairs.
    pub record IsDoubted (w : Writing H) (count size : ℕ) (doubts : List Listing) : Type 0 where
      pub segment : Standing
      pub waits : w.unlisted ≡ Some segment
      pub doubts_are : doubts ≡ listing segment ∷ []
      pub writer : segment.files.entry.writer ≡ w.writer
      pub files : IsKept (kept w.shelf) segment
      pub full : 512 * count ≤ size

    -- what may be listed though no answer told of it: after a refusal the segment that waits
    abbrev pub InDoubt : Stage → Writing H → ℕ → ℕ → List Listing → Type 0
    InDoubt Filling w count size doubts = doubts ≡ []
    InDoubt Emptied w count size doubts = doubts ≡ []
    InDoubt Flushed w count size doubts = doubts ≡ []
    InDoubt Stopped w count size doubts = (doubts ≡ []) ⊎ IsDoubted w count size doubts

    -- a batch that was listed at its number, sealed by this archiver from its pairs; the shelf keeps its files
    pub record IsSealedBy (w : Writing H) (history : List Listing) (r : ℕ × Sealing) : Type 0 where
      pub at : slice_get history (r.0 - 1) ≡ Some (listing r.1.segment)
      pub writer : r.1.segment.files.entry.writer ≡ w.writer
      pub earlier : r.1.segment.files.entry.seq < number_of w
      pub sealed : IsSealedFrom w.told r.1.pairs r.1.segment
      pub files : IsKept (kept w.shelf) r.1.segment

    abbrev pub AreSealed : Writing H → List Listing → List (ℕ × Sealing) → Type 0
    AreSealed w history [] = Unit {0}
    AreSealed w history (r ∷ rs) = IsSealedBy w history r × AreSealed w history rs

    -- These pairs were dealt to a worker in a dataset and stored: some are listed, by as many entries as its pass counts,
    -- and the others are pending. The shelf tells what it keeps where the archiver says so.
    pub record Works (stage : Stage) (pairs : List Pair) (w : Writing H) (v : View) : Type 0 where
      pub receipts : List (ℕ × Sealing)
      pub pending : List Pair
      pub rise : Rise v.opening (length v.history) receipts
      pub sealed : AreSealed w v.history receipts
      pub amount : v.amount ≡ length receipts
      pub short : length receipts ≤ 65535
      pub pairs_are : pairs ≡ pairs_in receipts ++ pending
      pub is_pending : IsPending w pending
      pub room : (w.draft.held.keys ≡ 2048) × (w.draft.held.bytes ≡ 131072)
      pub stands : IsAtStage stage w (length receipts) (length (pairs_in receipts)) pending
      pub doubts : InDoubt stage w (length receipts) (length (pairs_in receipts)) v.doubts
      pub free : v.lock ≡ Free
      pub dataset : w.dataset ≡ v.subject
      pub bounded : w.writer ≤ greatest_writer v.opening
      pub tells : is_some (kept w.shelf) ≡ w.told

    -- some pairs were stored, and there is room in number for one more of this length and its digest
    pub record CanPut (size : ℕ) (w : Writing H) (v : View) : Type 0 where
      pub pairs : List Pair
      pub works : Works Filling pairs w v
      pub sum : stored pairs + (size + 32) < 2 ^ 63

    abbrev pub CanList : Writing H → View → Type 0
    CanList w v = (pairs : List Pair) × Works Filling pairs w v

    -- how far a worker comes by a pair that is put into its batch
    abbrev pub PutOn : {F : Type 0} → Result (Unit {0}) (ArchiveFault F) → List Pair → Pair → Writing H → Writing H → View → Type 0
    PutOn (Ok done) pairs p w x v = Works Filling (pairs ++ p ∷ []) x v
    PutOn (Err archives.Unlisted) pairs p w x v = ⊥
    PutOn (Err (archives.Full keys left)) pairs p w x v = (x ≡ w) × IsFilled w
    PutOn (Err (archives.Disk f)) pairs p w x v = Works Filling pairs x v

    -- what a refusal leaves
    abbrev pub Refused : {F : Type 0} → FlushFault F → List Pair → Writing H → View → Type 0
    Refused (flushes.Disk f) pairs x v = Works Stopped pairs x v
    Refused (flushes.TableFull count) pairs x v = Works Stopped pairs x v × (count ≡ 65535) × (length v.history ≡ 65535) × HasSealed x
    Refused flushes.NoMemory pairs x v = Works Stopped pairs x v

    -- how far it comes by listing what is pending
    abbrev pub ListedAll : {F : Type 0} → Result (Unit {0}) (FlushFault F) → List Pair → Writing H → Writing H → View → Type 0
    ListedAll (Ok done) pairs w x v = Works Flushed pairs x v × (IsFilled w → Works Emptied pairs x v)
    ListedAll (Err fault) pairs w x v = Refused fault pairs x v

    -- how far it comes by a pair that is stored
    abbrev pub Stored : {F : Type 0} → Result (Unit {0}) (FlushFault F) → List Pair → Pair → Writing H → View → Type 0
    Stored (Ok done) pairs p x v = Works Filling (pairs ++ p ∷ []) x v
    Stored (Err fault) pairs p x v = Refused fault pairs x v

-- an empty batch isn't full
abbrev pub IsNotFull : {F : Type 0} → Result (Unit {0}) (ArchiveFault F) → Type 0
IsNotFull (Ok done) = Unit {0}
IsNotFull (Err archives.Unlisted) = ⊥
IsNotFull (Err (archives.Full keys left)) = ⊥
IsNotFull (Err (archives.Disk f)) = Unit {0}
