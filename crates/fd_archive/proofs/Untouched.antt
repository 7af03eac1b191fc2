-- A dataset that was only looked into, and what a crash leaves of it.
use Rattle.std.proofs.Common.{◌≡◌, ◌∙◌, inl, inr, ℕ, List, [], Option, Some, None, refl, sym, ap, subst}
use Rattle.std.specs.Prelude.{◌⊎◌, Ok}
use Rattle.fd_disk.specs.declared.file.File.{File}
use Rattle.fd_disk.specs.declared.folders.FileName.{FileName}
use Rattle.fd_disk.specs.Folders.{Contents}
use Rattle.fd_disk.specs.Images.{IsImage, firm_file}
use Rattle.fd_entries.specs.declared.batch.Pair.{Pair}
use Rattle.fd_entries.specs.Table.{listed}
use Rattle.fd_recovery.specs.Recovered.{batches_listed, held, held_by}
use Rattle.fd_library.specs.Stores.{KeepsFolder, KeepsTable}
use Rattle.fd_stored.specs.Store.{Adds}
use Rattle.fd_bulk.proofs.Ended.{none_added}
use Rattle.fd_archive.specs.Crashing.{IsUntouched}
use Rattle.fd_archive.proofs.Crashed.{IsTableAfter}

module _ (workers : ℕ) (pairs : List Pair) (name : List ℕ) (t : List (List Pair)) where
  -- what a crash leaves of a folder
  abbrev pub FirmAfter : Contents → Type 0
  FirmAfter w = (x : Contents) → ((n : FileName) → x.files n ≡ w.files n) → IsTableAfter w.table x.table → Adds workers pairs t (held name x)

  same_adds : (x : Contents) → held name x ≡ Some t → Adds workers pairs t (held name x)
  same_adds x is = none_added workers pairs t (held name x) is

  module _ (v w : Contents) (is : held name v ≡ Some t) (files : w.files ≡ v.files) where
    -- a table that was founded lists nothing, whatever a crash leaves of it
    founded_firm : (g : File) → v.table ≡ None → w.table ≡ Some g → g ≡ firm_file g.reads → listed name g.reads ≡ Ok [] → FirmAfter w
    founded_firm g none some firm lists x same left =
        let after : (c : List ℕ) × IsImage g c × (x.table ≡ Some (firm_file c)) = subst (λ (o : Option File). IsTableAfter o x.table) some left in
        let bytes : after.0 ≡ g.reads = after.1.settled (ap (λ (y : File). y.loose) firm) ∙ ap (λ (y : File). y.firm) firm in
        same_adds x (ap (held_by name x.files) after.2 ∙ ap (batches_listed x.files) (ap (listed name) bytes ∙ lists) ∙ sym (ap (held_by name v.files) none) ∙ is)

    -- one that was synced lists what it listed
    synced_firm : (f g : File) → v.table ≡ Some f → w.table ≡ Some g → g ≡ firm_file f.reads → FirmAfter w
    synced_firm f g before some firm x same left =
        let after : (c : List ℕ) × IsImage g c × (x.table ≡ Some (firm_file c)) = subst (λ (o : Option File). IsTableAfter o x.table) some left in
        let bytes : after.0 ≡ f.reads = after.1.settled (ap (λ (y : File). y.loose) firm) ∙ ap (λ (y : File). y.firm) firm in
        let as_before : x.files ≡ v.files = (λ k n. same n k) ∙ files in
        same_adds x (ap (held_by name x.files) after.2 ∙ ap (λ (c : List ℕ). batches_listed x.files (listed name c)) bytes ∙ ap (λ (fs : FileName → Option (List ℕ)). held_by name fs (Some f)) as_before ∙ sym (ap (held_by name v.files) before) ∙ is)

    kept_firm : (a b : Option File) → v.table ≡ a → w.table ≡ b → KeepsTable name a b → IsUntouched v w ⊎ FirmAfter w
    kept_firm None None d e k = inl (record { table = e ∙ sym d; files = files })
    kept_firm None (Some g) d e k = inr (founded_firm g d e k.0 k.1)
    kept_firm (Some f) None d e k = absurd k
    kept_firm (Some f) (Some g) d e (inl same) = inl (record { table = e ∙ ap (λ (y : File). Some y) same ∙ sym d; files = files })
    kept_firm (Some f) (Some g) d e (inr (firm, image)) = inr (synced_firm f g d e firm)

  -- a folder that was only looked into is untouched, or holds after each crash what it held
  pub firm_kept : (v w : Contents) → held name v ≡ Some t → KeepsFolder name v w → IsUntouched v w ⊎ FirmAfter w
  firm_kept v w is k = kept_firm v w is k.files v.table w.table refl refl k.table
