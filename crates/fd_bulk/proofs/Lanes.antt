-- What a worker listed in a dataset, once its pass was joined and its archiver is back.
use Rattle.std.proofs.Common.{◌≡◌, ◌<◌, ◌-◌, ℕ, true, List, [], ◌∷◌, map, All, length, Option, Some, None, is_some, Ok, refl, ap, ap₂, subst, ◌∙◌, arith}
use mathlib.Core.List.{IsPrefix}
use Rattle.std.proofs.lemmas.List.Elements.{All-head, All-tail}
use Rattle.fd_disk.specs.declared.folders.FileName.{FileName}
use Rattle.fd_disk.specs.declared.folders.FileKind.TheVariants.{Fields, Index}
use Rattle.fd_disk.specs.Names.{name_of}
use Rattle.fd_entries.specs.declared.batch.Listing.{Listing}
use Rattle.fd_entries.specs.declared.batch.Pair.{Pair}
use Rattle.fd_entries.specs.declared.table.Entry.{Entry}
use Rattle.fd_segment.specs.Held.{Standing, batch_of, batch_told}
use Rattle.fd_turn.specs.Views.{View}
use Rattle.fd_dataset.specs.Listed.{entries_of, listing}
use Rattle.fd_recovery.specs.Damages.{field_file, index_file}
use Rattle.fd_recovery.specs.Recovered.{all_of, batches_listed, files_of}
use Rattle.fd_archiver.specs.Writing.{IsKept, Writing}
use Rattle.fd_bulk.specs.Gathering.{AreOwned, AreShown}
use Rattle.fd_shares.specs.Merging.{Rise}
use Rattle.fd_bulk.specs.Tables.{Every, IsHeld, listing_of, writer_of}
use Rattle.fd_shares.specs.Working.{AreSealed, Sealing, Stage, Works}
use Rattle.fd_shares.proofs.Storing.{front_length, get_seen, rise_wider}

-- ---- in the history that all know in the end

module _ {H : Type 0} (kept : H → Option (FileName → Option (List ℕ))) where
  sealed_shown : (w : Writing H) (h k : List Listing) (rs : List (ℕ × Sealing)) → IsPrefix h k → AreSealed kept w h rs → AreShown listing_of writer_of k rs
  sealed_shown w h k [] seen all = tt
  sealed_shown w h k (r ∷ rs) seen all = (get_seen h k (r.0 - 1) (listing r.1.segment) seen all.0.at, sealed_shown w h k rs seen all.1)

  pub sealed_owned : (w : Writing H) (h : List Listing) (rs : List (ℕ × Sealing)) → AreSealed kept w h rs → AreOwned listing_of writer_of w.writer rs
  sealed_owned w h [] all = tt
  sealed_owned w h (r ∷ rs) all = (all.0.writer, sealed_owned w h rs all.1)

  -- what a worker listed is a lane of the longer history
  pub works_lane : (stage : Stage) (pairs : List Pair) (w : Writing H) (v : View) (history : List Listing) (opening : ℕ) (c : Works kept stage pairs w v) → IsPrefix v.history history → v.opening ≡ opening
      → Rise opening (length history) c.receipts × AreShown listing_of writer_of history c.receipts × AreOwned listing_of writer_of w.writer c.receipts
  works_lane stage pairs w v history opening c seen same = (
    subst (λ (n : ℕ). Rise n (length history) c.receipts) same (rise_wider v.opening (length v.history) (length history) c.receipts (front_length v.history history seen) c.rise),
    sealed_shown w v.history history c.receipts seen c.sealed,
    sealed_owned w v.history c.receipts c.sealed,
  )

  -- ---- in the folder

  -- a segment's two files are in the folder: the entry stands for its batch
  pub segment_back : (files kf : FileName → Option (List ℕ)) (s : Standing) (c : List Pair) → ((n : FileName) (bytes : List ℕ) → kf n ≡ Some bytes → files n ≡ Some bytes) → IsKept (Some kf) s → batch_of s.files ≡ Some c
      → batch_of (files_of files s.files.entry) ≡ Some c
  unfolding batch_of
  segment_back files kf s c back kept e = go s.files.index s.files.fields refl refl e
    where
      go : (i f : Option (List ℕ)) → s.files.index ≡ i → s.files.fields ≡ f → batch_told s.files.entry i f ≡ Some c → batch_of (files_of files s.files.entry) ≡ Some c
      go None f is there e = absurd (cc e)
      go (Some i) None is there e = absurd (cc e)
      go (Some i) (Some f) is there e =
          ap₂ (batch_told s.files.entry) (back (name_of s.files.entry.writer s.files.entry.seq Index) i (kept.1 ∙ is)) (back (name_of s.files.entry.writer s.files.entry.seq Fields) f (kept.0 ∙ there)) ∙ e

  -- what the shelf kept is held by the folder that took it back
  pub held_each : (w : Writing H) (files kf : FileName → Option (List ℕ)) → w.told ≡ true → kept w.shelf ≡ Some kf → ((n : FileName) (bytes : List ℕ) → kf n ≡ Some bytes → files n ≡ Some bytes)
      → (h : List Listing) (rs : List (ℕ × Sealing)) → AreSealed kept w h rs → Every (IsHeld files) rs
  held_each w files kf told is_kept back h [] all = tt
  held_each w files kf told is_kept back h (r ∷ rs) all = (one (batch_of r.1.segment.files) refl (all.0.sealed.batch told), held_each w files kf told is_kept back h rs all.1)
    where
      one : (o : Option (List Pair)) → batch_of r.1.segment.files ≡ o → is_some o ≡ true → IsHeld files r
      one None e some = absurd (cc some)
      one (Some c) e some = record {
        some = all.0.sealed.some;
        batch = c;
        is = segment_back files kf r.1.segment c back (subst (λ (o : Option (FileName → Option (List ℕ))). IsKept o r.1.segment) is_kept all.0.files) e;
        alike = all.0.sealed.alike c e;
      }

-- the files of one writer stay
abbrev pub StayOf : ℕ → (FileName → Option (List ℕ)) → (FileName → Option (List ℕ)) → Type 0
StayOf writer old new = (n : FileName) → n.writer ≡ writer → new n ≡ old n

pub files_stay : (old new : FileName → Option (List ℕ)) (e : Entry) → StayOf e.writer old new → files_of new e ≡ files_of old e
files_stay old new e stay = ap₂ (λ (i f : Option (List ℕ)). record { entry = e; index = i; fields = f }) (stay (index_file e) refl) (stay (field_file e) refl)

pub held_stay : (old new : FileName → Option (List ℕ)) (writer : ℕ) (rs : List (ℕ × Sealing)) → StayOf writer old new → AreOwned listing_of writer_of writer rs → Every (IsHeld old) rs → Every (IsHeld new) rs
held_stay old new writer [] stay owned all = tt
held_stay old new writer (r ∷ rs) stay owned all = (
  record {
    some = all.0.some;
    batch = all.0.batch;
    is = ap batch_of (files_stay old new r.1.segment.files.entry (λ n is. stay n (is ∙ owned.0))) ∙ all.0.is;
    alike = all.0.alike;
  },
  held_stay old new writer rs stay owned.1 all.1,
)

-- the entries of earlier writers stand for what they stood for
pub first_stays : (old new : FileName → Option (List ℕ)) (writer : ℕ) (ls : List Listing) → ((n : FileName) → n.writer < writer → new n ≡ old n) → All (λ (l : Listing). l.entry.writer < writer) ls
    → batches_listed new (Ok (entries_of ls)) ≡ batches_listed old (Ok (entries_of ls))
first_stays old new writer ls stay earlier = ap all_of (same ls earlier)
  where
    same : (ls : List Listing) → All (λ (l : Listing). l.entry.writer < writer) ls → map (λ (e : Entry). batch_of (files_of new e)) (entries_of ls) ≡ map (λ (e : Entry). batch_of (files_of old e)) (entries_of ls)
    same [] earlier = refl
    same (l ∷ ls) earlier =
        let one : l.entry.writer < writer = All-head (λ (l : Listing). l.entry.writer < writer) l ls earlier in
        ap₂ (λ (b : Option (List Pair)) (bs : List (Option (List Pair))). b ∷ bs) (ap batch_of (files_stay old new l.entry (λ n is. stay n (omega (arith, one, is))))) (same ls (All-tail (λ (l : Listing). l.entry.writer < writer) l ls earlier))
