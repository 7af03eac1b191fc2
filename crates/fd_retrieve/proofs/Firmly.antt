-- Datasets that were opened, whose tables are firm then.
use Rattle.std.proofs.Common.{◌≡◌, ◌∙◌, inl, inr, ℕ, Bool, true, false, List, [], ◌∷◌, ◌++◌, length, Option, Some, None, IfSome, refl, sym, ap, subst}
use Rattle.std.specs.Prelude.{◌⊎◌, Contains, is_some, option_map}
use Rattle.std.specs.Str.{bytes_eq}
use Rattle.std.proofs.lemmas.Slice.Eq.{bytes_eq-Decides}
use Rattle.fd_disk.specs.declared.file.File.{File}
use Rattle.fd_disk.specs.Folders.{Contents, Holdings, WhereTold, folder_at, with_table, without_table}
use Rattle.fd_disk.specs.Images.{firm_file, synced}
use Rattle.fd_disk.proofs.NameLemmas.{is_or_not}
use Rattle.fd_recovery.specs.Crashing.{IsFirmTable}
use Rattle.fd_request.specs.Expansion.{Keyword, expand}
use Rattle.fd_schema.specs.declared.place.Place.{Place}
use Rattle.fd_words.specs.declared.command.Command.TheVariants.{Retrieve}
use Rattle.fd_outcome.specs.Asking.{asked_of}
use Rattle.fd_stored.specs.Distinct.{is_among}
use Rattle.fd_outcome.specs.Ends.{AmongAsked}
use Rattle.fd_outcome.specs.Noticing.{AnswersFirmly}
use Rattle.fd_outcome.specs.Objects.{Object}
use Rattle.fd_stored.specs.Store.{AreNames, has_table}
use Rattle.fd_stored.specs.declared.status.Status.{Status}
use Rattle.fd_retrieve.specs.Looking.{IsLookedAt, IsLookedThrough}
use Rattle.fd_retrieve.specs.Open.{Open}
use Rattle.fd_retrieve.specs.Ready.{AreFirmOf, IsReady}
use Rattle.fd_retrieve.specs.Tables.{AreTables, datasets_in}
use Rattle.fd_retrieve.proofs.ReadyLemmas.{among_contained, among_found, among_last, datasets_at, or_either}

-- ---- one folder

-- there is no table
pub bare_firm : (given back : Option Contents) → back ≡ option_map without_table given → IfSome back (λ w. IsFirmTable w.table)
bare_firm None back e = subst (λ (o : Option Contents). IfSome o (λ w. IsFirmTable w.table)) (sym e) tt
bare_firm (Some v) back e = subst (λ (o : Option Contents). IfSome o (λ w. IsFirmTable w.table)) (sym e) tt

firm_of : (f : File) (t : Option File) → Some f ≡ option_map synced t → f ≡ firm_file f.reads
firm_of f None is = absurd (cc is)
firm_of f (Some g) is =
    let same : f ≡ synced g = cc is in
    subst (λ (x : File). x ≡ firm_file x.reads) (sym same) refl

no_folder : (t : Option File) → with_table t None ≡ None
no_folder None = refl
no_folder (Some f) = refl

-- the table that was synced is back
pub synced_back : (given mid back : Option Contents) (table : Option File) → IfSome given (λ v. table ≡ option_map synced v.table) → mid ≡ option_map without_table given → back ≡ with_table table mid → IfSome back (λ w. IsFirmTable w.table)
synced_back None mid back table is out put = subst (λ (o : Option Contents). IfSome o (λ w. IsFirmTable w.table)) (sym (put ∙ ap (with_table table) out ∙ no_folder table)) tt
synced_back (Some v) mid back None is out put = subst (λ (o : Option Contents). IfSome o (λ w. IsFirmTable w.table)) (sym put) tt
synced_back (Some v) mid back (Some f) is out put =
    let here : back ≡ Some (record { table = Some f; files = v.files }) = put ∙ ap (with_table (Some f)) out in
    subst (λ (o : Option Contents). IfSome o (λ w. IsFirmTable w.table)) (sym here) (firm_of f v.table is)

-- the folder is back in its store
pub firm_given : (new : Option Holdings) (back : Option Contents) (name : List ℕ) → IfSome new (λ t. back ≡ Some (folder_at t name)) → IfSome back (λ w. IsFirmTable w.table) → IfSome new (λ t. IsFirmTable (folder_at t name).table)
firm_given None back name left firm = tt
firm_given (Some t) back name left firm = subst (λ (o : Option Contents). IfSome o (λ w. IsFirmTable w.table)) left firm

pub ruleset bare = (bare_firm)

-- ---- what is looked at stays firm

firm_synced : (t : Option File) → IsFirmTable (option_map synced t)
firm_synced None = tt
firm_synced (Some f) = refl

firm_later : (v w : Contents) → IsLookedAt v w → IsFirmTable v.table → IsFirmTable w.table
firm_later v w at firm = elim at.table as (λ _. IsFirmTable w.table) [
  | inl same ↦ subst IsFirmTable (sym same) firm
  | inr made ↦ subst IsFirmTable (sym made.0) (firm_synced v.table)
]

bare_table : (t : Option File) → is_some t ≡ false → IsFirmTable t
bare_table None none = tt
bare_table (Some f) none = absurd cc

-- a dataset without a table
unlisted : (h i : Holdings) (name : List ℕ) → IsLookedThrough h i → has_table h name ≡ false → IsFirmTable (folder_at i name).table
unlisted h i name looks none = firm_later (folder_at h name) (folder_at i name) (looks.folders name) (bare_table (folder_at h name).table none)

pub unlisted_firm : (old new : Option Holdings) (name : List ℕ) → WhereTold old new IsLookedThrough → IfSome old (λ h. false ≡ has_table h name) → IfSome new (λ i. IsFirmTable (folder_at i name).table)
unlisted_firm None None name looks none = tt
unlisted_firm None (Some i) name looks none = absurd looks
unlisted_firm (Some h) None name looks none = tt
unlisted_firm (Some h) (Some i) name looks none = unlisted h i name looks (sym none)

pub ruleset bare_listed = (unlisted_firm)

-- ---- several datasets

pub firm_start : (has : Option Holdings) → IfSome has (λ i. AreFirmOf i [])
firm_start None = tt
firm_start (Some i) = λ n among. absurd cc

-- one more
pub firm_told_more : (mid new : Option Holdings) (names : List (List ℕ)) (name : List ℕ) → WhereTold mid new IsLookedThrough → IfSome mid (λ i. AreFirmOf i names) → IfSome new (λ i. IsFirmTable (folder_at i name).table) → IfSome new (λ i. AreFirmOf i (names ++ name ∷ []))
firm_told_more None None names name looks so_far one = tt
firm_told_more None (Some i) names name looks so_far one = absurd looks
firm_told_more (Some h) None names name looks so_far one = tt
firm_told_more (Some h) (Some i) names name looks so_far one = λ n among. elim (or_either i (is_among names n) (bytes_eq n name) (sym (among_last i names name n) ∙ among)) as (λ _. IsFirmTable (folder_at i n).table) [
  | inl old ↦ firm_later (folder_at h n) (folder_at i n) (looks.folders n) (so_far n old)
  | inr new ↦ subst (λ (m : List ℕ). IsFirmTable (folder_at i m).table) (sym ((bytes_eq-Decides n name).0 new)) one
]

-- those that have tables were opened
pub firm_all : (old new : Option Holdings) (ds names : List (List ℕ)) → WhereTold old new IsLookedThrough → IfSome old (λ h. AreTables h ds names) → IfSome new (λ i. AreFirmOf i names) → IfSome new (λ i. AreFirmOf i ds)
firm_all None None ds names looks tables firm = tt
firm_all None (Some i) ds names looks tables firm = absurd looks
firm_all (Some h) None ds names looks tables firm = tt
firm_all (Some h) (Some i) ds names looks tables firm = λ n among. elim (is_or_not (has_table h n)) as (λ _. IsFirmTable (folder_at i n).table) [
  | inl has ↦ firm n (tables.same n ∙ among_found h ds n among has)
  | inr none ↦ unlisted h i n looks none
]

-- ---- a request

pub plain_firm : (root : List ℕ) (workers : ℕ) (s : Status) (store : Object Holdings) (input : Object (List ℕ)) (ks : List Keyword) (ps : List Place) (os : List Open) → length ps ≡ length (expand ks)
    → IfSome store.before (λ h. IfSome input.before (λ octets. IsReady h octets ks ps os)) → IfSome store.now (λ i. AreFirmOf i (datasets_in ps)) → AnswersFirmly (Retrieve root workers) s store input
plain_firm root workers s store input ks ps os long ready firm whole = go input.before store.before store.now ready firm
  where
    go : (i : Option (List ℕ)) (b n : Option Holdings) → IfSome b (λ h. IfSome i (λ octets. IsReady h octets ks ps os)) → IfSome n (λ j. AreFirmOf j (datasets_in ps))
        → IfSome i (λ octets. IfSome b (λ h. IfSome n (λ j. (names : List (List ℕ)) → AreNames h names → (name : List ℕ) → AmongAsked (asked_of h octets) name → IsFirmTable (folder_at j name).table)))
    go None b n r f = tt
    go (Some octets) None n r f = tt
    go (Some octets) (Some h) None r f = tt
    go (Some octets) (Some h) (Some j) r f = λ names are name among.
        let there = subst (λ q. AmongAsked q name) r.asked among in
        f name (among_contained (datasets_in ps) name (subst (λ ds. Contains ds name) (datasets_at (expand ks) ps long) there))
