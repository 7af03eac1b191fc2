-- What a crash leaves of a store in which all was listed.
use Rattle.std.proofs.Common.{◌≡◌, ◌∙◌, ◌<◌, inl, inr, ℕ, zero, suc, ◌||◌, Bool, true, false, List, [], ◌∷◌, All, Contains, length, get_or, Option, Some, None, IfSome, refl, sym, ap, subst, arith, if◌then◌else◌, Ok}
use Rattle.std.specs.Str.{bytes_eq}
use Rattle.std.proofs.lemmas.List.{length-map}
use Rattle.std.proofs.lemmas.List.Elements.{All-head, All-tail}
use Rattle.std.proofs.lemmas.Slice.Eq.{bytes_eq-Decides}
use Rattle.fd_disk.specs.declared.file.File.{File}
use Rattle.fd_disk.specs.declared.folders.FileName.{FileName}
use Rattle.fd_disk.specs.Folders.{Contents, Holdings, WhereTold, folder_at}
use Rattle.fd_disk.specs.Images.{IsImage, firm_file}
use Rattle.fd_disk.proofs.NameLemmas.{is_or_not}
use Rattle.fd_entries.specs.declared.batch.Listing.{Listing}
use Rattle.fd_entries.specs.declared.table.Entry.{Entry}
use Rattle.fd_entries.specs.Table.{listed}
use Rattle.fd_dataset.specs.Listed.{entries_of}
use Rattle.fd_recovery.specs.Recovered.{batches_listed, held, held_by}
use Rattle.fd_library.specs.Open.{OpenDataset, Seated, among, names_of}
use Rattle.fd_library.specs.Stores.{GivenBack, GivesBack, HasSeenAll, IsGivenBack, IsSettled, ListsOrDoubted, held_by_pass, held_in, held_of, held_with}
use Rattle.fd_stored.specs.Archiving.{Stored, datasets_in, pairs_for}
use Rattle.fd_stored.specs.Store.{AddsAll}
use Rattle.fd_bulk.specs.Archived.{GrowsAll}
use Rattle.fd_archive.specs.Crashing.{IsAfterCrash, IsFirm}
use Rattle.fd_archive.proofs.Crashed.{IsTableAfter, files_after, tables_after}
use Rattle.fd_archive.proofs.Tables.{whole_prefix}
use Rattle.fd_archive.proofs.Told.{through}

no_doubt : (name : List ℕ) (es : List Entry) (doubts : List Listing) (c : List ℕ) → doubts ≡ [] → ListsOrDoubted name es doubts c → listed name c ≡ Ok es
no_doubt name es doubts c none (inl lists) = lists
no_doubt name es doubts c none (inr d) = absurd (let lt = d.1.1 in let e = ap length none in omega (arith, lt, e))

-- a dataset that came back with nothing in doubt holds after a crash what its pass has seen
firm_held : (name : List ℕ) (o : Option Contents) (p : Option Seated) (v w : Contents) → GivenBack name o p v → IfSome p HasSeenAll → ((n : FileName) → w.files n ≡ v.files n) → IsTableAfter v.table w.table → held name w ≡ held_by_pass o p
firm_held name None p v w back settled files left = absurd back
firm_held name (Some u) None v w back settled files left = absurd back
firm_held name (Some u) (Some p) v w back settled files left =
    let after : (c : List ℕ) × IsImage back.table c × (w.table ≡ Some (firm_file c)) = subst (λ (f : Option File). IsTableAfter f w.table) back.table_is left in
    let c = after.0 in
    let long = length-map p.view.history (λ (l : Listing). l.entry) in
    let all : back.entries ≡ entries_of p.view.history = whole_prefix (entries_of p.view.history) back.entries back.seen (back.count ∙ settled.all ∙ sym long) in
    let lists : listed name c ≡ Ok back.entries = no_doubt name back.entries p.view.doubts c settled.sure (back.images c after.1) in
    let same : w.files ≡ u.files = (λ k n. files n k) ∙ back.files_are in
    ap (λ (fs : FileName → Option (List ℕ)). held_by name fs w.table) same ∙ (ap (held_by name u.files) after.2 ∙ (ap (batches_listed u.files) lists ∙ ap (λ (es : List Entry). batches_listed u.files (Ok es)) all))

-- a dataset of a message has a pair
pub some_pair : (ss : List Stored) (name : List ℕ) → Contains (datasets_in ss) name → pairs_for ss name ≡ [] → ⊥
some_pair [] name there none = absurd (let lt = there.1 in omega (arith, lt))
some_pair (s ∷ ss) name there none = go (bytes_eq s.dataset name) refl (λ more e. some_pair ss name more e) there.0 there.1 there.2 none
  where
    go : (b : Bool) → bytes_eq s.dataset name ≡ b → (Contains (datasets_in ss) name → pairs_for ss name ≡ [] → ⊥) → (k : ℕ) → k < length (s.dataset ∷ datasets_in ss) → get_or (s.dataset ∷ datasets_in ss) k name ≡ name → (if b then s.pair ∷ pairs_for ss name else pairs_for ss name) ≡ [] → ⊥
    go true is rest k lt same e = absurd (cc e)
    go false is rest zero lt same e = absurd (let t = (bytes_eq-Decides s.dataset name).1 same in cc (is, t))
    go false is rest (suc k) lt same e = rest (k, omega (arith, lt), same) e

module _ {D : Type 0} (has : D → Option Contents) where
  pub firm_among : (u j t : Holdings) → IsAfterCrash u j → (name : List ℕ) (hs : List (OpenDataset D)) → All (λ (h : OpenDataset D). IsGivenBack has h (folder_at u h.name)) hs → All IsSettled hs → among name (names_of hs) ≡ true → held_of j name ≡ held_with has hs t name
  firm_among u j t left name [] given settled there = absurd (cc there)
  firm_among u j t left name (h ∷ hs) given settled there = elim (is_or_not (bytes_eq name h.name)) as (λ _. held_of j name ≡ held_with has (h ∷ hs) t name) [
    | inl same ↦
        let one : name ≡ h.name = (bytes_eq-Decides name h.name).0 same in
        let here = firm_held h.name (has h.folder) h.pass (folder_at u h.name) (folder_at j h.name) (All-head (λ (g : OpenDataset D). IsGivenBack has g (folder_at u g.name)) h hs given) (All-head IsSettled h hs settled) (files_after u j left h.name) (tables_after u j left h.name) in
        ap (held_of j) one ∙ (here ∙ sym (ap (λ (b : Bool). if b then held_in has h else held_with has hs t name) same))
    | inr differs ↦
        firm_among u j t left name hs (All-tail (λ (g : OpenDataset D). IsGivenBack has g (folder_at u g.name)) h hs given) (All-tail IsSettled h hs settled) (sym (ap (λ (b : Bool). b || among name (names_of hs)) differs) ∙ there)
        ∙ sym (ap (λ (b : Bool). if b then held_in has h else held_with has hs t name) differs)
  ]

  -- all that was listed is there after a crash
  pub firm : (workers : ℕ) (all : List Stored) (each : List (OpenDataset D)) (start now later : Option Holdings) → WhereTold start now (GrowsAll has workers all each) → All IsSettled each → WhereTold now later (GivesBack has each) → WhereTold start later (IsFirm workers all)
  firm workers all each start now later grows settled given =
      through start now later (GrowsAll has workers all each) (GivesBack has each) (IsFirm workers all) grows given
      (λ s t u g r. record {
        each = λ j left name there b is.
            let open_now : among name (names_of each) ≡ true = elim (is_or_not (among name (names_of each))) as (λ _. among name (names_of each) ≡ true) [ inl e ↦ e | inr e ↦ absurd (some_pair all name there (g.only name e)) ] in
            subst (AddsAll workers (pairs_for all name) b) (sym (firm_among u j t left name each r.given settled open_now)) (g.each_is name b is);
      })
