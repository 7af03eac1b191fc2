-- A store whose folders are looked into, one after the other.
use Rattle.std.proofs.Common.{◌≡◌, ◌≢◌, ◌∙◌, inl, inr, ℕ, List, Option, Some, None, IfSome, refl, sym, ap, subst, unwrap_or}
use Rattle.std.specs.Prelude.{◌⊎◌, IsSome, option_map}
use Rattle.std.specs.Str.{bytes_eq}
use Rattle.std.proofs.lemmas.Slice.Eq.{bytes_eq-Decides}
use Rattle.fd_disk.specs.declared.file.File.{File}
use Rattle.fd_disk.specs.Folders.{Contents, Holdings, SameBut, WhereTold, folder_at, no_contents, with_table, without_table}
use Rattle.fd_disk.specs.Images.{synced}
use Rattle.fd_disk.proofs.NameLemmas.{is_or_not}
use Rattle.fd_recovery.specs.Recovered.{ReadsImage, with_firm_table}
use Rattle.fd_retrieve.specs.Looking.{IsLookedAt, IsLookedThrough}

-- ---- one folder

pub looked_same : (v : Contents) → IsLookedAt v v
looked_same v = record { files = refl; table = inl refl }

synced_twice : (o : Option File) → option_map synced (option_map synced o) ≡ option_map synced o
synced_twice None = refl
synced_twice (Some f) = refl

-- the table is as it was, or synced, and what was synced read as one of its images
abbrev pub IsTableLooked : Option File → Option File → Type 0
IsTableLooked a b = (b ≡ a) ⊎ ((b ≡ option_map synced a) × ReadsImage a)

table_later : (a b c : Option File) → IsTableLooked a b → IsTableLooked b c → IsTableLooked a c
table_later a b c (inl e) (inl f) = inl (f ∙ e)
table_later a b c (inl e) (inr (f, image)) = inr (f ∙ ap (option_map synced) e, subst ReadsImage e image)
table_later a b c (inr (e, image)) (inl f) = inr (f ∙ e, image)
table_later a b c (inr (e, image)) (inr (f, after)) = inr (f ∙ ap (option_map synced) e ∙ synced_twice a, image)

pub looked_later : (u v w : Contents) → IsLookedAt u v → IsLookedAt v w → IsLookedAt u w
looked_later u v w a b = record { files = b.files ∙ a.files; table = table_later u.table v.table w.table a.table b.table }

-- a folder that came back was looked into, as far as it tells
abbrev pub LookedBack : Option Contents → Option Contents → Type 0
LookedBack given back = IfSome given (λ v. IfSome back (λ w. IsLookedAt v w))

pub same_looked : (given back : Option Contents) → back ≡ given → LookedBack given back
same_looked None back e = tt
same_looked (Some v) back e = subst (λ o. IfSome o (λ w. IsLookedAt v w)) (sym e) (looked_same v)

pub bare_looked : (given back : Option Contents) → IfSome given (λ v. v.table ≡ None) → back ≡ option_map without_table given → LookedBack given back
bare_looked None back none e = tt
bare_looked (Some v) back none e = subst (λ o. IfSome o (λ w. IsLookedAt v w)) (sym e) (record { files = refl; table = inl (sym none) })

pub firm_looked : (given back : Option Contents) → back ≡ option_map with_firm_table given → IfSome given (λ v. ReadsImage v.table) → LookedBack given back
firm_looked None back e image = tt
firm_looked (Some v) back e image = subst (λ o. IfSome o (λ w. IsLookedAt v w)) (sym e) (record { files = refl; table = inr (refl, image) })

-- nothing was opened
pub refused_looked : (given back : Option Contents) → (back ≡ given) ⊎ (back ≡ option_map with_firm_table given) → (back ≡ given) ⊎ IfSome given (λ v. ReadsImage v.table) → LookedBack given back
refused_looked given back (inl e) image = same_looked given back e
refused_looked given back (inr e) (inl same) = same_looked given back same
refused_looked given back (inr e) (inr image) = firm_looked given back e image

-- the table that is put back is the one that was taken out, or that one synced
pub table_looked : (given mid back : Option Contents) (table : Option File) → IfSome given (λ v. IsTableLooked v.table table) → mid ≡ option_map without_table given → back ≡ with_table table mid → LookedBack given back
table_looked None mid back table is out put = tt
table_looked (Some v) mid back None is out put = subst (λ o. IfSome o (λ w. IsLookedAt v w)) (sym put) tt
table_looked (Some v) mid back (Some f) is out put =
    let here : back ≡ Some (record { table = Some f; files = v.files }) = put ∙ ap (with_table (Some f)) out in
    subst (λ o. IfSome o (λ w. IsLookedAt v w)) (sym here) (record { files = refl; table = is })

some_same : (given : Option Contents) (table : Option File) → IfSome given (λ v. (table ≡ v.table) × IsSome v.table) → IfSome given (λ v. IsTableLooked v.table table)
some_same None table is = tt
some_same (Some v) table is = inl is.0

pub as_it_was : (given mid back : Option Contents) (table : Option File) → IfSome given (λ v. (table ≡ v.table) × IsSome v.table) → mid ≡ option_map without_table given → back ≡ with_table table mid → LookedBack given back
as_it_was given mid back table is out put = table_looked given mid back table (some_same given table is) out put

some_firm : (given : Option Contents) (table : Option File) → IfSome given (λ v. table ≡ option_map synced v.table) → IfSome given (λ v. ReadsImage v.table) → IfSome given (λ v. IsTableLooked v.table table)
some_firm None table is image = tt
some_firm (Some v) table is image = inr (is, image)

pub as_synced : (given mid back : Option Contents) (table : Option File) → IfSome given (λ v. table ≡ option_map synced v.table) → IfSome given (λ v. ReadsImage v.table) → mid ≡ option_map without_table given → back ≡ with_table table mid
    → LookedBack given back
as_synced given mid back table is image out put = table_looked given mid back table (some_firm given table is image) out put

-- ---- all folders

pub looked_both : (old mid new : Option Holdings) → WhereTold old mid IsLookedThrough → WhereTold mid new IsLookedThrough → WhereTold old new IsLookedThrough
looked_both None None None a b = tt
looked_both None None (Some j) a b = absurd b
looked_both None (Some i) new a b = absurd a
looked_both (Some h) None new a b = absurd a
looked_both (Some h) (Some i) None a b = absurd b
looked_both (Some h) (Some i) (Some j) a b = record { schema = b.schema ∙ a.schema; folders = λ name. looked_later (folder_at h name) (folder_at i name) (folder_at j name) (a.folders name) (b.folders name) }

pub looked_told : (has : Option Holdings) → WhereTold has has IsLookedThrough
looked_told None = tt
looked_told (Some h) = record { schema = refl; folders = λ name. looked_same (folder_at h name) }

pub looked_unmoved : (old new : Option Holdings) → new ≡ old → WhereTold old new IsLookedThrough
looked_unmoved old new e = subst (λ o. WhereTold old o IsLookedThrough) (sym e) (looked_told old)

-- a folder was handed out, and came back
pub looked_given : (old mid new : Option Holdings) (given back : Option Contents) (name : List ℕ) → WhereTold old mid (SameBut name) → WhereTold mid new (SameBut name)
    → given ≡ option_map (λ s. folder_at s name) old → LookedBack given back → IfSome new (λ t. back ≡ Some (folder_at t name)) → WhereTold old new IsLookedThrough
looked_given None None None given back name away home first looked left = tt
looked_given None None (Some t) given back name away home first looked left = absurd home
looked_given None (Some m) new given back name away home first looked left = absurd away
looked_given (Some s) None new given back name away home first looked left = absurd away
looked_given (Some s) (Some m) None given back name away home first looked left = absurd home
looked_given (Some s) (Some m) (Some t) given back name away home first looked left = record {
  schema = home.schema ∙ away.schema;
  folders = λ n. elim (is_or_not (bytes_eq n name)) [
    | inl same ↦
        let e : n ≡ name = (bytes_eq-Decides n name).0 same in
        let here : IsLookedAt (folder_at s name) (folder_at t name) = subst (λ o. IfSome o (λ w. IsLookedAt (folder_at s name) w)) left (subst (λ o. LookedBack o back) first looked) in
        subst (λ k. IsLookedAt (folder_at s k) (folder_at t k)) (sym e) here
    | inr differs ↦
        let other : n ≢ name = λ e. absurd (cc (differs, (bytes_eq-Decides n name).1 e)) in
        let is : folder_at t n ≡ folder_at s n = ap (λ (o : Option Contents). unwrap_or o no_contents) (home.others n other ∙ away.others n other) in
        subst (IsLookedAt (folder_at s n)) (sym is) (looked_same (folder_at s n))
  ];
}
