-- A store that was looked through behind what was stored, and what a crash leaves of it.
use Rattle.std.proofs.Common.{◌≡◌, ◌∙◌, inl, inr, ℕ, Bool, true, false, List, Option, Some, None, refl, sym, ap, subst, arith, unwrap_or}
use Rattle.std.specs.Prelude.{◌⊎◌, option_map}
use Rattle.std.specs.Str.{bytes_eq}
use Rattle.std.proofs.lemmas.Slice.Eq.{bytes_eq-Decides}
use Rattle.fd_disk.specs.declared.file.File.{File}
use Rattle.fd_disk.specs.declared.folders.FileName.{FileName}
use Rattle.fd_disk.specs.Folders.{Contents, Holdings, folder_at, no_contents}
use Rattle.fd_disk.specs.Images.{IsImage, firm_file, synced}
use Rattle.fd_entries.specs.declared.batch.Pair.{Pair}
use Rattle.fd_entries.specs.Table.{listed}
use Rattle.fd_recovery.specs.Recovered.{batches_listed, held, held_by}
use Rattle.fd_stored.specs.Archiving.{Stored, pairs_for}
use Rattle.fd_stored.specs.Store.{Adds, AddsAll, Grows, GrowsBy, IsLookedAt, IsLookedThrough, Sorted, table_at}
use Rattle.fd_archive.specs.Crashing.{GrowsFirmly, IsAfterCrash, IsFirm, IsUntouched}
use Rattle.fd_archive.proofs.Crashed.{IsTableAfter, after_crash, files_after, tables_after}

-- ---- a crash that leaves this of one folder, and the firm bytes of the others

abbrev left_firm : Contents → Contents
left_firm v = record { table = option_map (λ (f : File). firm_file f.firm) v.table; files = v.files }

firm_image : (f : File) → IsImage f f.firm
firm_image f = record { settled = λ e. refl; no_shorter = omega arith; agrees = λ k lt out. refl }

left_after : (o : Option File) → IsTableAfter o (option_map (λ (f : File). firm_file f.firm) o)
left_after None = refl
left_after (Some f) = (f.firm, firm_image f, refl)

-- what is left of a folder
abbrev IsLeft : Contents → Contents → Type 0
IsLeft v w = ((n : FileName) → w.files n ≡ v.files n) × IsTableAfter v.table w.table

left_others : (o : Option Contents) → IsLeft (unwrap_or o no_contents) (unwrap_or (option_map left_firm o) no_contents)
left_others None = ((λ n. refl), refl)
left_others (Some v) = ((λ n. refl), left_after v.table)

module _ (i : Holdings) (name : List ℕ) (w : Contents) (left : IsLeft (folder_at i name) w) where
  abbrev pick : Bool → List ℕ → Option Contents
  pick true n = Some w
  pick false n = option_map left_firm (i.folders n)

  abbrev crashed : Holdings
  crashed = record { schema = i.schema; folders = λ n. pick (bytes_eq n name) n }

  left_each : (n : List ℕ) (b : Bool) → bytes_eq n name ≡ b → IsLeft (folder_at i n) (unwrap_or (pick b n) no_contents)
  left_each n true e = subst (λ (m : List ℕ). IsLeft (folder_at i m) w) (sym ((bytes_eq-Decides n name).0 e)) left
  left_each n false e = left_others (i.folders n)

  is_crashed : IsAfterCrash i crashed
  is_crashed = after_crash i crashed refl (λ n. (left_each n (bytes_eq n name) refl).0) (λ n. (left_each n (bytes_eq n name) refl).1)

  crashed_at : folder_at crashed name ≡ w
  crashed_at = ap (λ (b : Bool). unwrap_or (pick b name) no_contents) ((bytes_eq-Decides name name).1 refl)

-- ---- one dataset

module _ (name : List ℕ) (P : Option (List (List Pair)) → Type 0) (j i : Holdings) (at : IsLookedAt (folder_at j name) (folder_at i name)) where
  -- its table was synced, and reads as before
  synced_table : (f : File) → (folder_at j name).table ≡ Some f → (folder_at i name).table ≡ Some (synced f) → P (table_at j name) → (k : Holdings) → IsAfterCrash i k → P (table_at k name)
  synced_table f before firm reads k left =
      let w = folder_at k name in
      let after : (c : List ℕ) × IsImage (synced f) c × (w.table ≡ Some (firm_file c)) = subst (λ (o : Option File). IsTableAfter o w.table) firm (tables_after i k left name) in
      let bytes : after.0 ≡ f.reads = after.1.settled refl in
      let files : w.files ≡ (folder_at j name).files = (λ x n. files_after i k left name n x) ∙ at.files in
      let same : held name w ≡ held name (folder_at j name) =
      ap (held_by name w.files) after.2 ∙ ap (λ (c : List ℕ). batches_listed w.files (listed name c)) bytes ∙ ap (λ (fs : FileName → Option (List ℕ)). held_by name fs (Some f)) files ∙ sym (ap (held_by name (folder_at j name).files) before) in
      subst P (sym same) reads

  module _ (firm : (k : Holdings) → IsAfterCrash j k → P (table_at k name)) where
    -- its table is as it was
    same_table : (folder_at i name).table ≡ (folder_at j name).table → (k : Holdings) → IsAfterCrash i k → P (table_at k name)
    same_table e k left =
        let w = folder_at k name in
        let of : IsLeft (folder_at j name) w = ((λ n. files_after i k left name n ∙ ap (λ (fs : FileName → Option (List ℕ)). fs n) at.files), subst (λ (o : Option File). IsTableAfter o w.table) e (tables_after i k left name)) in
        subst (λ (v : Contents). P (held name v)) (crashed_at j name w of) (firm (crashed j name w of) (is_crashed j name w of))

    -- what each store has that a crash may leave, each has behind that
    still_firm : P (table_at j name) → (k : Holdings) → IsAfterCrash i k → P (table_at k name)
    still_firm reads = elim at.table as (λ _. (k : Holdings) → IsAfterCrash i k → P (table_at k name)) [ inl e ↦ same_table e | inr e ↦ go (folder_at j name).table refl e.0 ]
      where
        go : (o : Option File) → (folder_at j name).table ≡ o → (folder_at i name).table ≡ option_map synced o → (k : Holdings) → IsAfterCrash i k → P (table_at k name)
        go None d e = same_table (e ∙ sym d)
        go (Some f) d e = synced_table f d e reads

-- ---- all datasets

module _ (workers : ℕ) (m j i : Holdings) (looks : IsLookedThrough j i) where
  pub firm_looked : (all : List Stored) → GrowsBy workers (pairs_for all) m j → IsFirm workers all m j → IsFirm workers all m i
  firm_looked all grows f = record { each = λ k left name there t is. still_firm name (AddsAll workers (pairs_for all name) t) j i (looks.folders name) (λ x after. f.each x after name there t is) (grows.each name t is) k left }

  module _ (pairs : Sorted) where
    abbrev After : List ℕ → List (List Pair) → Type 0
    After name t = IsUntouched (folder_at m name) (folder_at i name) ⊎ ((k : Holdings) → IsAfterCrash i k → Adds workers (pairs name) t (table_at k name))

    same : (name : List ℕ) (t : List (List Pair)) → IsUntouched (folder_at m name) (folder_at j name) → (folder_at i name).table ≡ (folder_at j name).table → After name t
    same name t u e = inl (record { table = e ∙ u.table; files = (looks.folders name).files ∙ u.files })

    untouched : (name : List ℕ) (t : List (List Pair)) → Adds workers (pairs name) t (table_at j name) → IsUntouched (folder_at m name) (folder_at j name) → (o : Option File) → (folder_at j name).table ≡ o → (folder_at i name).table ≡ option_map synced o → After name t
    untouched name t reads u None d e = same name t u (e ∙ sym d)
    untouched name t reads u (Some f) d e = inr (synced_table name (Adds workers (pairs name) t) j i (looks.folders name) f d e reads)

    after : (name : List ℕ) (t : List (List Pair)) → Adds workers (pairs name) t (table_at j name) → IsUntouched (folder_at m name) (folder_at j name) ⊎ ((k : Holdings) → IsAfterCrash j k → Adds workers (pairs name) t (table_at k name)) → After name t
    after name t reads (inr f) = inr (still_firm name (Adds workers (pairs name) t) j i (looks.folders name) f reads)
    after name t reads (inl u) = elim (looks.folders name).table as (λ _. After name t) [ inl e ↦ same name t u e | inr e ↦ untouched name t reads u (folder_at j name).table refl e.0 ]

    pub firmly_looked : Grows workers pairs m j → GrowsFirmly workers pairs m j → GrowsFirmly workers pairs m i
    firmly_looked grows g = record { each = λ name t is. after name t (grows.each name t is) (g.each name t is) }
