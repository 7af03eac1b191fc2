-- What an archiver has that is not listed.
use Rattle.std.specs.Prelude.{◌≡◌, ◌≢◌, ℕ, Bool, true, List, [], Option, None, Some, IfSome, IsSome}
use Rattle.fd_disk.specs.declared.folders.FileName.{FileName}
use Rattle.fd_disk.specs.declared.folders.FileKind.TheVariants.{Fields, Index}
use Rattle.fd_disk.specs.Names.{name_of}
use Rattle.fd_entries.specs.declared.batch.Pair.{Pair}
use Rattle.fd_entries.specs.Batches.{distinct}
use Rattle.fd_segment.specs.Filling.{Filling, Puts, stored}
use Rattle.fd_segment.specs.Held.{Alike, Standing, batch_of}

-- What contracts see of an archiver: its writer and the dataset's text, whether its shelf tells what it keeps, the
-- greatest sequence number that it has used, whether a draft waits that a failed flush made, the batch that is filled,
-- the sealed segment that waits to be listed, whether it came to its listing, so that the shelf keeps its files, the
-- shelf, and how many calls of the shelf have failed.
pub record Writing (H : Type 0) : Type 0 where
  pub writer : ℕ
  pub dataset : List ℕ
  pub told : Bool
  pub last : ℕ
  pub has_next : Bool
  pub draft : Filling
  pub unlisted : Option Standing
  pub is_kept : Bool
  pub shelf : H
  pub shelf_faults : ℕ

-- The segment was sealed from these pairs: the numbers of its entry, and the batch that it stands for, which there is
-- where the shelf tells.
pub record IsSealedFrom (told : Bool) (b : List Pair) (s : Standing) : Type 0 where
  pub some : b ≢ []
  pub fields : s.files.entry.fields ≡ distinct b
  pub fields_len : s.files.entry.fields_len ≡ stored b
  pub batch : told ≡ true → IsSome (batch_of s.files)
  pub alike : (c : List Pair) → batch_of s.files ≡ Some c → Alike b c

abbrev pub IsPendingIn : Bool → Option Standing → Filling → List Pair → Type 0
IsPendingIn told None draft b = Puts draft b
IsPendingIn told (Some s) draft b = Puts draft [] × IsSealedFrom told b s

-- These are the pairs that aren't listed: those of the draft, or those from which the waiting segment was sealed.
abbrev pub IsPending : {H : Type 0} → Writing H → List Pair → Type 0
IsPending w b = IsPendingIn w.told w.unlisted w.draft b

abbrev pub number_in : Option Standing → Filling → ℕ
number_in None draft = draft.origin.seq
number_in (Some s) draft = s.files.entry.seq

-- the sequence number of the batch that isn't listed
abbrev pub number_of : {H : Type 0} → Writing H → ℕ
number_of w = number_in w.unlisted w.draft

-- both files of the segment are kept, where told
abbrev pub IsKept : Option (FileName → Option (List ℕ)) → Standing → Type 0
IsKept kept s = IfSome kept (λ files.
    (files (name_of s.files.entry.writer s.files.entry.seq Fields) ≡ s.files.fields)
    × (files (name_of s.files.entry.writer s.files.entry.seq Index) ≡ s.files.index))

-- a segment waits whose files the shelf keeps, so that only its listing is left
pub record IsReady {H : Type 0} (kept : H → Option (FileName → Option (List ℕ))) (w : Writing H) : Type 0 where
  pub segment : Standing
  pub waits : w.unlisted ≡ Some segment
  pub files : IsKept (kept w.shelf) segment
  pub came : w.is_kept ≡ true
