-- What the table has at the end, by what the history and the doubts say of listings.
use Rattle.std.proofs.Common.{◌≡◌, List, [], ◌∷◌, length, sym, refl, ap, ◌∙◌, subst, ◌⊎◌, inl, inr, Option, Some, None, Contains}
use mathlib.Core.List.{IsPrefix, map-append}
use Rattle.std.proofs.lemmas.List.{length-map}
use Rattle.std.specs.declared.sync.Arc.{Arc}
use Rattle.fd_entries.specs.declared.table.Entry.{Entry}
use Rattle.fd_entries.specs.declared.batch.Listing.{Listing}
use Rattle.fd_turn.specs.declared.view.Lock.{Lock}
use Rattle.fd_turn.specs.declared.view.Lock.TheVariants.{Owner}
use Rattle.fd_turn.specs.Views.{Settles}
use Rattle.fd_turn.proofs.Settling.{leaves_doubts}
use Rattle.fd_segment.specs.Held.{Standing}
use Rattle.fd_segment.specs.Shared.{entries, entry_of}
use Rattle.fd_dataset.specs.declared.fault.ListFault.{ListFault}
use Rattle.fd_dataset.specs.declared.fault.ListFault.TheVariants as faults
use Rattle.fd_dataset.specs.Causes.{AreFewer, DoubtsOne, LeavesDoubts}
use Rattle.fd_dataset.specs.Listed.{entries_of, listings, listing_of, doubted_entry, doubted_listing}

module _ (A : Type 0) where
  pub entries_listed : (xs : List (Arc Standing A)) → entries_of (listings xs) ≡ entries xs
  entries_listed [] = refl
  entries_listed (x ∷ xs) = ap (λ l. entry_of x ∷ l) (entries_listed xs)

  pub seen_entries : (xs : List (Arc Standing A)) (es : List Entry) (history : List Listing) → entries xs ≡ es → IsPrefix history (listings xs) → IsPrefix (entries_of history) es
  seen_entries xs es history is p = (entries_of p.0, sym (map-append (λ l. l.entry) history p.0) ∙ (ap entries_of p.1 ∙ (entries_listed xs ∙ is)))

  pub doubt_entry : (d : Option (Arc Standing A)) (o : Option Entry) (e : Entry) (doubts : List Listing) → doubted_entry d ≡ o → o ≡ Some e → ((l : Listing) → doubted_listing d ≡ Some l → Contains doubts l)
      → (l : Listing) × Contains doubts l × (l.entry ≡ e)
  doubt_entry None o e doubts is at all = absurd (cc (is, at))
  doubt_entry (Some a) o e doubts is at all = (listing_of a, all (listing_of a) refl, cc (is, at))

  pub as_many : (xs : List (Arc Standing A)) (es : List Entry) → entries xs ≡ es → length (listings xs) ≡ length es
  as_many xs es is = length-map xs listing_of ∙ (sym (length-map xs entry_of) ∙ ap length is)

  pub doubt_cases : (d d0 : Option (Arc Standing A)) (a : Arc Standing A) → (d ≡ d0) ⊎ (d ≡ None) ⊎ (d ≡ Some a)
      → (doubted_listing d ≡ doubted_listing d0) ⊎ (doubted_listing d ≡ None) ⊎ (doubted_listing d ≡ Some (listing_of a))
  doubt_cases d d0 a (inl e) = inl (ap doubted_listing e)
  doubt_cases d d0 a (inr (inl e)) = inr (inl (ap doubted_listing e))
  doubt_cases d d0 a (inr (inr e)) = inr (inr (ap doubted_listing e))

regroup : {P Q R : Type 0} → P ⊎ Q ⊎ R → (P ⊎ Q) ⊎ R
regroup (inl p) = inl (inl p)
regroup (inr (inl q)) = inl (inr q)
regroup (inr (inr r)) = inr r

fewer : (A : Type 0) (lock : Lock) (d : Option (Arc Standing A)) (before after : List Listing) → lock ≡ Owner (doubted_listing d) → Settles lock before (doubted_listing d) after → AreFewer before after
fewer A lock None before after owner settles = inr (settles.sure refl)
fewer A lock (Some a) before after owner settles = inl (settles.found (listing_of a) refl owner)

same_doubts : (A : Type 0) (lock : Lock) (found left : Option (Arc Standing A)) (before after : List Listing) → lock ≡ Owner (doubted_listing found) → Settles lock before (doubted_listing left) after → left ≡ found → AreFewer before after
same_doubts A lock found left before after owner settles same = fewer A lock found before after owner (subst (λ (d : Option (Arc Standing A)). Settles lock before (doubted_listing d) after) same settles)

some_doubts : (A : Type 0) (lock : Lock) (found left : Option (Arc Standing A)) (a : Arc Standing A) (before after : List Listing) → lock ≡ Owner (doubted_listing found) → Settles lock before (doubted_listing left) after
    → (left ≡ found) ⊎ (left ≡ None) ⊎ (left ≡ Some a) → AreFewer before after ⊎ (after ≡ listing_of a ∷ [])
some_doubts A lock found left a before after owner settles cases =
    regroup (leaves_doubts lock (doubted_listing found) (doubted_listing left) before after (listing_of a) owner settles (doubt_cases A left found a cases))

left_by : {F : Type 0} (A : Type 0) (lock : Lock) (found left : Option (Arc Standing A)) (a : Arc Standing A) (before after : List Listing) (e : ListFault F) → lock ≡ Owner (doubted_listing found)
    → Settles lock before (doubted_listing left) after → DoubtsOne a found left e → LeavesDoubts (listing_of a) before after e
left_by A lock found left a before after (faults.Disk f) owner settles cases = some_doubts A lock found left a before after owner settles cases
left_by A lock found left a before after (faults.Full count) owner settles same = same_doubts A lock found left before after owner settles same
left_by A lock found left a before after faults.NoMemory owner settles same = same_doubts A lock found left before after owner settles same

-- the doubts that an owner is left with whose listing was refused
pub refused : {F : Type 0} (A : Type 0) (lock : Lock) (found left : Option (Arc Standing A)) (a : Arc Standing A) (before after first : List Listing) (e : ListFault F) → lock ≡ Owner (doubted_listing found)
    → Settles lock before (doubted_listing left) after → DoubtsOne a found left e → before ≡ first → LeavesDoubts (listing_of a) first after e
refused A lock found left a before after first e owner settles cases is = subst (λ (z : List Listing). LeavesDoubts (listing_of a) z after e) is (left_by A lock found left a before after e owner settles cases)
