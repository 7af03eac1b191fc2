-- What a listing tells of the flush that it ends.
use Rattle.std.proofs.Common.{◌≡◌, ◌<◌, ◌⊎◌, inl, inr, ℕ, List, [], ◌∷◌, ap, ◌∙◌, sym, subst, Bool, Option, Some, None}
use Rattle.fd_disk.specs.declared.folders.FileName.{FileName}
use Rattle.fd_entries.specs.declared.batch.Pair.{Pair}
use Rattle.fd_entries.specs.declared.batch.Listing.{Listing}
use Rattle.fd_segment.specs.Held.{Standing}
use Rattle.fd_dataset.specs.Listed.{listing}
use Rattle.fd_dataset.specs.declared.fault.ListFault.{ListFault}
use Rattle.fd_dataset.specs.declared.fault.ListFault.TheVariants as faults
use Rattle.fd_dataset.specs.Causes.{AreFewer}
use Rattle.fd_dataset.specs.Causes as lists
use Rattle.fd_archiver.specs.Causes.{DoubtsWaiting, LeavesDoubts, flush_fault}
use Rattle.fd_archiver.specs.Flushing.{Lists, StaysOf}
use Rattle.fd_archiver.specs.Writing.{IsPending, IsSealedFrom, Writing, number_of}

one_waits : (u : Option Standing) (s t : Standing) (before after : List Listing) → u ≡ Some s → t ≡ s → AreFewer before after ⊎ (after ≡ listing t ∷ []) → AreFewer before after ⊎ DoubtsWaiting u after
one_waits u s t before after is same (inl fewer) = inl fewer
one_waits u s t before after is same (inr only) = inr (s, is, only ∙ ap (λ (x : Standing). listing x ∷ []) same)

-- a doubt about a copy of a segment is one about the segment
pub doubt_waits : {F : Type 0} (u : Option Standing) (s t : Standing) (before after : List Listing) (e : ListFault F) → u ≡ Some s → t ≡ s → lists.LeavesDoubts (listing t) before after e → LeavesDoubts u before after (flush_fault e)
doubt_waits u s t before after (faults.Disk f) is same doubts = one_waits u s t before after is same doubts
doubt_waits u s t before after (faults.Full count) is same doubts = doubts
doubt_waits u s t before after faults.NoMemory is same doubts = doubts

-- what was pending before the sealing is listed
pub lists_from : {H : Type 0} (files : H → Option (FileName → Option (List ℕ))) (v m w : Writing H) (before after : List Listing) (number : ℕ) → StaysOf v m → number_of m ≡ number_of v
    → ((b : List Pair) → IsPending v b → IsPending m b) → Lists files m w before number after → Lists files v w before number after
lists_from files v m w before after number stays same pending is = record {
  segment = is.segment;
  listed = is.listed;
  writer = is.writer ∙ stays.writer;
  dataset = is.dataset ∙ stays.dataset;
  seq = is.seq ∙ same;
  later = subst (λ (k : ℕ). k < number_of w) same is.later;
  sealed = λ b p. subst (λ (told : Bool). IsSealedFrom told b is.segment) stays.told (is.sealed b (pending b p));
  kept = is.kept;
}
