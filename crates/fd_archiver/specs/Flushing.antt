-- What a flush does to an archiver.
use Rattle.std.specs.Prelude.{◌≡◌, ◌≢◌, ◌⊎◌, ◌+◌, ◌<◌, ℕ, Bool, true, false, List, [], Option, None, Some, IsSome}
use Rattle.fd_disk.specs.declared.folders.FileName.{FileName}
use Rattle.fd_disk.specs.Folders.{WhereTold}
use Rattle.fd_entries.specs.declared.batch.Pair.{Pair}
use Rattle.fd_entries.specs.declared.batch.Listing.{Listing}
use Rattle.fd_segment.specs.Held.{Standing}
use Rattle.fd_segment.specs.Filling.{HoldsSame}
use Rattle.fd_bytes.specs.Causes.{Rose}
use Rattle.fd_dataset.specs.Listed.{listing}
use Rattle.fd_dataset.specs.Causes.{IsListed}
use Rattle.fd_archiver.specs.Writing.{IsKept, IsPending, IsSealedFrom, Writing, number_of}

-- whose files they are and how much a batch may hold stay
pub record StaysOf {H : Type 0} (v w : Writing H) : Type 0 where
  pub writer : w.writer ≡ v.writer
  pub dataset : w.dataset ≡ v.dataset
  pub told : w.told ≡ v.told
  pub keys : w.draft.held.keys ≡ v.draft.held.keys
  pub bytes : w.draft.held.bytes ≡ v.draft.held.bytes

-- at most one sequence number was used, and none where a draft waited
abbrev pub UsesOne : {H : Type 0} → Writing H → Writing H → Type 0
UsesOne v w = (w.last ≡ v.last) ⊎ ((v.has_next ≡ false) × (w.last ≡ v.last + 1))

-- the shelf still keeps what it kept under other numbers than this one, where told
abbrev pub KeepsOthers : ℕ → Option (FileName → Option (List ℕ)) → Option (FileName → Option (List ℕ)) → Type 0
KeepsOthers number before after = WhereTold before after (λ files later. (n : FileName) → n.seq ≢ number → later n ≡ files n)

-- What was pending was listed at this number: the last listing is that of a segment of this writer, which was sealed
-- from the pending pairs, and both of whose files the shelf keeps.
pub record Lists {H : Type 0} (files : H → Option (FileName → Option (List ℕ))) (v w : Writing H) (before : List Listing) (number : ℕ) (after : List Listing) : Type 0 where
  pub segment : Standing
  pub listed : IsListed before (listing segment) number after
  pub writer : segment.files.entry.writer ≡ v.writer
  pub dataset : segment.dataset ≡ v.dataset
  pub seq : segment.files.entry.seq ≡ number_of v
  pub later : number_of v < number_of w
  pub sealed : (b : List Pair) → IsPending v b → IsSealedFrom v.told b segment
  pub kept : IsKept (files w.shelf) segment

-- A flush failed before the sealing was done: a call of the shelf, or one of the draft's files, which holds what it held.
-- In the second case the next draft was made and waits.
pub record FailedBefore {H : Type 0} (v w : Writing H) : Type 0 where
  pub unsealed : w.unlisted ≡ None
  pub draft : HoldsSame v.draft w.draft
  pub rose : Rose v.shelf_faults w.shelf_faults ⊎ ((w.has_next ≡ true) × (Rose v.draft.field_faults w.draft.field_faults ⊎ Rose v.draft.index_faults w.draft.index_faults))

-- a next draft that waited still waits, or took the place of the draft whose batch was sealed
abbrev pub KeepsNext : {H : Type 0} → Writing H → Writing H → Type 0
KeepsNext v w = v.has_next ≡ true → (w.has_next ≡ true) ⊎ IsSome w.unlisted
