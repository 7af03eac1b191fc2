-- A dataset that came back with batches added, and what a crash leaves of it.
use Rattle.std.proofs.Common.{◌≡◌, ◌≢◌, ◌∙◌, ◌≤◌, inl, inr, ℕ, ◌+◌, List, [], ◌∷◌, ◌++◌, All, Contains, length, map, Option, Some, None, IfSome, refl, sym, ap, subst, arith, append_assoc, length-append}
use Rattle.std.specs.Prelude.{◌/◌, Ok}
use mathlib.Core.List.{map-append}
use Rattle.std.proofs.lemmas.List.{length-map}
use Rattle.std.proofs.lemmas.List.Elements.{All-contains, All-push}
use Rattle.fd_disk.specs.declared.file.File.{File}
use Rattle.fd_disk.specs.declared.folders.FileName.{FileName}
use Rattle.fd_disk.specs.Folders.{Contents}
use Rattle.fd_disk.specs.Images.{IsImage, firm_file}
use Rattle.fd_entries.specs.declared.batch.Listing.{Listing}
use Rattle.fd_entries.specs.declared.batch.Pair.{Pair}
use Rattle.fd_entries.specs.declared.table.Entry.{Entry}
use Rattle.fd_entries.specs.Table.{listed}
use Rattle.fd_segment.specs.Held.{batch_of}
use Rattle.fd_dataset.specs.Listed.{entries_of}
use Rattle.fd_recovery.specs.Recovered.{all_of, batches_listed, files_of, held, held_by}
use Rattle.fd_library.specs.Open.{Seated}
use Rattle.fd_library.specs.Stores.{GivenBack, held_by_pass}
use Rattle.fd_stored.specs.Store.{Adds, HasOnly}
use Rattle.fd_bulk.specs.Adding.{IsHeldBy, IsOnlyOf}
use Rattle.fd_archive.proofs.Crashed.{IsTableAfter}
use Rattle.fd_archive.proofs.Tables.{all_both, all_long, whole_prefix}

-- What an open dataset may have in doubt: each listing is of these pairs, and the files give its batch; one more is few.
pub record CanDoubt (workers : ℕ) (pairs : List Pair) (b : List (List Pair)) (files : FileName → Option (List ℕ)) (p : Seated) : Type 0 where
  pub seen : p.view.opening + p.view.amount ≡ length p.view.history
  pub opening : length b ≡ p.view.opening
  pub doubts : All (IsOnlyOf pairs) p.view.doubts
  pub files_are : All (IsHeldBy files) p.view.doubts
  pub few : p.view.doubts ≢ [] → p.view.amount + 1 ≤ workers + length pairs / 512

module _ (workers : ℕ) (name : List ℕ) (pairs : List Pair) (b : List (List Pair)) (files : Contents) (p : Seated) (v : Contents) (back : GivenBack name (Some files) (Some p) v) (can : CanDoubt workers pairs b files.files p)
    (adds : Adds workers pairs b (held_by_pass (Some files) (Some p))) where
  abbrev batch_at : Entry → Option (List Pair)
  batch_at e = batch_of (files_of files.files e)

  entries_are : back.entries ≡ entries_of p.view.history
  entries_are = whole_prefix (entries_of p.view.history) back.entries back.seen (back.count ∙ can.seen ∙ sym (length-map p.view.history (λ (l : Listing). l.entry)))

  -- a folder with these files, and a table that reads as one of the images
  module _ (w : Contents) (f : File) (table_is : w.table ≡ Some f) (same : w.files ≡ v.files) (image : IsImage back.table f.reads) where
    held_as : (es : List Entry) → listed name f.reads ≡ Ok es → held name w ≡ all_of (map batch_at es)
    held_as es lists = ap (λ (fs : FileName → Option (List ℕ)). held_by name fs w.table) (same ∙ back.files_are) ∙ (ap (held_by name files.files) table_is ∙ ap (batches_listed files.files) lists)

    -- the table lists also an entry that was in doubt
    doubted : (l : Listing) → Contains p.view.doubts l → listed name f.reads ≡ Ok (back.entries ++ l.entry ∷ []) → Adds workers pairs b (held name w)
    doubted l there lists =
        let only = All-contains (IsOnlyOf pairs) p.view.doubts l can.doubts there in
        let kept = All-contains (IsHeldBy files.files) p.view.doubts l can.files_are there in
        let c : List Pair = kept.0 in
        let first : all_of (map batch_at back.entries) ≡ Some (b ++ adds.added) = ap (λ (es : List Entry). all_of (map batch_at es)) entries_are ∙ adds.after_is in
        let last : all_of (batch_at l.entry ∷ []) ≡ Some (c ∷ []) = ap (λ (o : Option (List Pair)). all_of (o ∷ [])) kept.2 in
        let long = all_long (map batch_at (entries_of p.view.history)) (b ++ adds.added) adds.after_is in
        let count = length-map (entries_of p.view.history) batch_at in
        let listings = length-map p.view.history (λ (x : Listing). x.entry) in
        let sum = length-append b adds.added in
        let more = length-append adds.added (c ∷ []) in
        let some : p.view.doubts ≢ [] = λ none. let e = ap length none in let lt = there.1 in absurd (omega (arith, lt, e)) in
        let few = can.few some in
        let seen = can.seen in
        let opening = can.opening in
        record {
          added = adds.added ++ c ∷ [];
          after_is =
              held_as (back.entries ++ l.entry ∷ []) lists
              ∙ ap all_of (map-append batch_at back.entries (l.entry ∷ []))
              ∙ all_both (map batch_at back.entries) (batch_at l.entry ∷ []) (b ++ adds.added) (c ∷ []) first last
              ∙ ap (λ (x : List (List Pair)). Some x) (append_assoc b adds.added (c ∷ []));
          only = All-push (HasOnly pairs) adds.added c adds.only (only.only c kept.1);
          few = omega (arith, long, count, listings, sum, more, few, seen, opening);
          none = λ e. absurd (only.some e);
        }

    known_grown : Adds workers pairs b (held name w)
    known_grown = elim (back.images f.reads image) as (λ _. Adds workers pairs b (held name w)) [
      | inl lists ↦ subst (Adds workers pairs b) (sym (held_as back.entries lists ∙ ap (λ (es : List Entry). all_of (map batch_at es)) entries_are)) adds
      | inr d ↦ doubted d.0 d.1 d.2
    ]

module _ (workers : ℕ) (name : List ℕ) (pairs : List Pair) (b : List (List Pair)) where
  pub back_grown : (o : Option Contents) (p : Option Seated) (v : Contents) → GivenBack name o p v → IfSome o (λ files. IfSome p (CanDoubt workers pairs b files.files)) → Adds workers pairs b (held_by_pass o p) → Adds workers pairs b (held name v)
  back_grown None p v back can adds = absurd back
  back_grown (Some files) None v back can adds = absurd back
  back_grown (Some files) (Some p) v back can adds = known_grown workers name pairs b files p v back can adds v back.table back.table_is refl back.reads

  -- whatever a crash leaves of its table
  pub crash_grown : (o : Option Contents) (p : Option Seated) (v w : Contents) → GivenBack name o p v → IfSome o (λ files. IfSome p (CanDoubt workers pairs b files.files)) → Adds workers pairs b (held_by_pass o p)
      → ((n : FileName) → w.files n ≡ v.files n) → IsTableAfter v.table w.table → Adds workers pairs b (held name w)
  crash_grown None p v w back can adds files_same left = absurd back
  crash_grown (Some files) None v w back can adds files_same left = absurd back
  crash_grown (Some files) (Some p) v w back can adds files_same left =
      let after : (c : List ℕ) × IsImage back.table c × (w.table ≡ Some (firm_file c)) = subst (λ (f : Option File). IsTableAfter f w.table) back.table_is left in
      known_grown workers name pairs b files p v back can adds w (firm_file after.0) after.2 (λ k n. files_same n k) after.1
