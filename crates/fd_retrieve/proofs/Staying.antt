-- A store that stays as it was while folders are handed out and come back.
use Rattle.std.proofs.Common.{◌≡◌, ◌≢◌, ◌⊎◌, ◌∙◌, ℕ, Bool, true, false, List, [], ◌∷◌, ◌++◌, map, Option, Some, None, IfSome, refl, sym, ap, subst, inl, inr, unwrap_or}
use Rattle.std.specs.Prelude.{is_some, option_map, Contains, IsSome, Result, Ok, Err}
use Rattle.std.specs.Str.{bytes_eq}
use Rattle.std.proofs.lemmas.Slice.Eq.{bytes_eq-Decides}
use Rattle.fd_disk.specs.declared.file.File.{File}
use Rattle.fd_disk.specs.declared.folders.FileName.{FileName}
use Rattle.fd_disk.specs.Folders.{Contents, Holdings, SameBut, WhereTold, folder_at, no_contents, with_table, without_table}
use Rattle.fd_disk.specs.Images.{synced}
use Rattle.fd_disk.proofs.NameLemmas.{is_or_not}
use Rattle.fd_entries.specs.declared.table.Entry.{Entry}
use Rattle.fd_entries.specs.declared.table.NotATable.{NotATable}
use Rattle.fd_entries.specs.Table.{listed}
use Rattle.fd_segment.specs.Held.{batch_of}
use Rattle.fd_segment.specs.Causes.{IsBadIndex, IsFindDamage, IsKeyDamage}
use Rattle.fd_segment.specs.declared.fault.Damage.{Damage}
use Rattle.fd_recovery.specs.Damages.{damages, damages_at, damages_of, digest_damages, field_file, index_file}
use Rattle.fd_recovery.specs.Recovered.{IsUndamaged, all_of, batches_listed, files_of, held, held_by, with_firm_table}
use Rattle.fd_recovery.specs.declared.fault.OpenFault.{OpenFault}
use Rattle.fd_recovery.specs.declared.fault.OpenFault.TheVariants as faults
use Rattle.fd_stored.specs.Causes.{Broken, BadFile, BadTable}
use Rattle.fd_stored.specs.Store.{Stands, StandsIn, StaysFolder, Stays, has_table, table_at}
use Rattle.fd_retrieve.specs.Open.{IsOpenIn, Open, StandsAsSaid}

pub some_is : {A : Type 0} (x y : A) → (let o : Option A = Some x in o ≡ Some y) → x ≡ y
some_is x y e = cc

-- ---- folders that are handed out

pub home_again : (out mid new : List ℕ → Bool) (name : List ℕ) → ((n : List ℕ) → out n ≡ false) → ((n : List ℕ) → mid n ≡ true → (out n ≡ true) ⊎ (n ≡ name)) → ((n : List ℕ) → new n ≡ true → (mid n ≡ true) × (n ≢ name)) → (n : List ℕ) → new n ≡ false
home_again out mid new name home away back n = elim (is_or_not (new n)) [
  | inl is ↦ elim (away n (back n is).0) as (λ _. new n ≡ false) [ inl before ↦ absurd (cc (before, home n)) | inr same ↦ absurd ((back n is).1 same) ]
  | inr is ↦ is
]

-- ---- a folder that stays

pub same_folder : (name : List ℕ) (v : Contents) → StaysFolder name v v
same_folder name v = record { table = refl; files = λ n. refl }

pub folder_later : (name : List ℕ) (v w x : Contents) → StaysFolder name v w → StaysFolder name w x → StaysFolder name v x
folder_later name v w x a b = record { table = b.table ∙ a.table; files = λ n. b.files n ∙ a.files n }

pub stays_both : (h i j : Holdings) → Stays h i → Stays i j → Stays h j
stays_both h i j a b = record { schema = b.schema ∙ a.schema; folders = λ name. folder_later name (folder_at h name) (folder_at i name) (folder_at j name) (a.folders name) (b.folders name) }

pub told_both : (old mid new : Option Holdings) → WhereTold old mid Stays → WhereTold mid new Stays → WhereTold old new Stays
told_both None None None a b = tt
told_both None None (Some j) a b = absurd b
told_both None (Some i) new a b = absurd a
told_both (Some h) None new a b = absurd a
told_both (Some h) (Some i) None a b = absurd b
told_both (Some h) (Some i) (Some j) a b = stays_both h i j a b

pub stays_told : (has : Option Holdings) → WhereTold has has Stays
stays_told None = tt
stays_told (Some h) = record { schema = refl; folders = λ name. same_folder name (folder_at h name) }

pub stays_same : (old new : Option Holdings) → new ≡ old → WhereTold old new Stays
stays_same old new e = subst (λ o. WhereTold old o Stays) (sym e) (stays_told old)

-- a folder that came back stays, as far as it tells
abbrev pub Back : List ℕ → Option Contents → Option Contents → Type 0
Back name given back = IfSome given (λ v. IfSome back (λ w. StaysFolder name v w))

pub same_back : (name : List ℕ) (given back : Option Contents) → back ≡ given → Back name given back
same_back name None back e = tt
same_back name (Some v) back e = subst (λ o. IfSome o (λ w. StaysFolder name v w)) (sym e) (same_folder name v)

pub bare_back : (name : List ℕ) (given back : Option Contents) → IfSome given (λ v. v.table ≡ None) → back ≡ option_map without_table given → Back name given back
bare_back name None back none e = tt
bare_back name (Some v) back none e = subst (λ o. IfSome o (λ w. StaysFolder name v w)) (sym e) (record { table = ap (option_map (λ f. listed name f.reads)) (sym none); files = λ n. refl })

synced_reads : (name : List ℕ) (o : Option File) → option_map (λ f. listed name f.reads) (option_map synced o) ≡ option_map (λ f. listed name f.reads) o
synced_reads name None = refl
synced_reads name (Some f) = refl

pub firm_back : (name : List ℕ) (given back : Option Contents) → back ≡ option_map with_firm_table given → Back name given back
firm_back name None back e = tt
firm_back name (Some v) back e = subst (λ o. IfSome o (λ w. StaysFolder name v w)) (sym e) (record { table = synced_reads name v.table; files = λ n. refl })

-- the table that is put back lists what the one that was taken out lists
pub table_back : (name : List ℕ) (given mid back : Option Contents) (table : Option File) → mid ≡ option_map without_table given → back ≡ with_table table mid
    → IfSome given (λ v. (f : File) → table ≡ Some f → option_map (λ f. listed name f.reads) table ≡ option_map (λ f. listed name f.reads) v.table) → Back name given back
table_back name None mid back table out put same = tt
table_back name (Some v) mid back None out put same = subst (λ o. IfSome o (λ w. StaysFolder name v w)) (sym put) tt
table_back name (Some v) mid back (Some f) out put same =
    let is : back ≡ Some (record { table = Some f; files = v.files }) = put ∙ ap (with_table (Some f)) out in
    subst (λ o. IfSome o (λ w. StaysFolder name v w)) (sym is) (record { table = same f refl; files = λ n. refl })

pub looked_back : (name : List ℕ) (given mid back : Option Contents) (table : Option File) → IfSome given (λ v. (table ≡ v.table) × IsSome v.table) → mid ≡ option_map without_table given → back ≡ with_table table mid → Back name given back
looked_back name None mid back table is out put = tt
looked_back name (Some v) mid back table is out put = table_back name (Some v) mid back table out put (λ f e. ap (option_map (λ f. listed name f.reads)) is.0)

-- and so does the store
pub stays_given : (old mid new : Option Holdings) (given back : Option Contents) (name : List ℕ) → WhereTold old mid (SameBut name) → WhereTold mid new (SameBut name)
    → given ≡ option_map (λ s. folder_at s name) old → Back name given back → IfSome new (λ t. back ≡ Some (folder_at t name)) → WhereTold old new Stays
stays_given None None None given back name away home first stays left = tt
stays_given None None (Some t) given back name away home first stays left = absurd home
stays_given None (Some m) new given back name away home first stays left = absurd away
stays_given (Some s) None new given back name away home first stays left = absurd away
stays_given (Some s) (Some m) None given back name away home first stays left = absurd home
stays_given (Some s) (Some m) (Some t) given back name away home first stays left = record {
  schema = home.schema ∙ away.schema;
  folders = λ n. elim (is_or_not (bytes_eq n name)) [
    | inl same ↦
        let e : n ≡ name = (bytes_eq-Decides n name).0 same in
        let here : StaysFolder name (folder_at s name) (folder_at t name) = subst (λ o. IfSome o (λ w. StaysFolder name (folder_at s name) w)) left (subst (λ o. Back name o back) first stays) in
        subst (λ k. StaysFolder k (folder_at s k) (folder_at t k)) (sym e) here
    | inr differs ↦
        let other : n ≢ name = λ e. absurd (cc (differs, (bytes_eq-Decides n name).1 e)) in
        let is : folder_at t n ≡ folder_at s n = ap (λ (o : Option Contents). unwrap_or o no_contents) (home.others n other ∙ away.others n other) in
        subst (StaysFolder n (folder_at s n)) (sym is) (same_folder n (folder_at s n))
  ];
}

-- ---- what stays with it

is_some_map : {A B : Type 0} (g : A → B) (o : Option A) → is_some (option_map g o) ≡ is_some o
is_some_map g None = refl
is_some_map g (Some x) = refl

some_there : {A B : Type 0} (g : A → B) (o p : Option A) (f : A) → option_map g o ≡ option_map g p → o ≡ Some f → (k : A) × (p ≡ Some k) × (g k ≡ g f)
some_there g None p f e is = absurd (cc is)
some_there g (Some x) None f e is = absurd (cc e)
some_there g (Some x) (Some y) f e is = (y, refl, sym (some_is (g x) (g y) e) ∙ ap g (some_is x f is))

pub same_tables : (h i : Holdings) → Stays h i → (name : List ℕ) → has_table i name ≡ has_table h name
same_tables h i stays name =
    sym (is_some_map (λ (f : File). listed name f.reads) (folder_at i name).table) ∙ ap is_some (stays.folders name).table ∙ is_some_map (λ (f : File). listed name f.reads) (folder_at h name).table

module _ (files gs : FileName → Option (List ℕ)) (same : (n : FileName) → gs n ≡ files n) where
  files_same : (e : Entry) → files_of gs e ≡ files_of files e
  files_same e =
      ap (λ (i : Option (List ℕ)). record (files_of gs e) { index = i }) (same (index_file e)) ∙ ap (λ (f : Option (List ℕ)). record (files_of files e) { fields = f }) (same (field_file e))

  pub files_all : (es : List Entry) → map (files_of gs) es ≡ map (files_of files) es
  files_all [] = refl
  files_all (e ∷ es) = ap (λ x. x ∷ map (files_of gs) es) (files_same e) ∙ ap (λ l. files_of files e ∷ l) (files_all es)

  batches_same : (es : List Entry) → map (λ e. batch_of (files_of gs e)) es ≡ map (λ e. batch_of (files_of files e)) es
  batches_same [] = refl
  batches_same (e ∷ es) = ap (λ x. batch_of x ∷ map (λ e. batch_of (files_of gs e)) es) (files_same e) ∙ ap (λ l. batch_of (files_of files e) ∷ l) (batches_same es)

  listed_same : (r : Result (List Entry) NotATable) → batches_listed gs r ≡ batches_listed files r
  listed_same (Ok es) = ap all_of (batches_same es)
  listed_same (Err fault) = refl

  damages_here : (e : Entry) → damages_at gs e ≡ damages_at files e
  damages_here e =
      let f = same (field_file e) in
      let i = same (index_file e) in
      λ j. (damages_of (field_file e) e.fields_len (f j) ++ damages_of (index_file e) e.index_len (i j)) ++ digest_damages e (i j)

  damages_same : (es : List Entry) → damages gs es ≡ damages files es
  damages_same [] = refl
  damages_same (e ∷ es) = ap (λ l. l ++ damages gs es) (damages_here e) ∙ ap (λ l. damages_at files e ++ l) (damages_same es)

held_same : (name : List ℕ) (files gs : FileName → Option (List ℕ)) (o p : Option File) → ((n : FileName) → gs n ≡ files n) → option_map (λ f. listed name f.reads) p ≡ option_map (λ f. listed name f.reads) o → held_by name gs p ≡ held_by name files o
held_same name files gs None None same e = refl
held_same name files gs None (Some g) same e = absurd (cc e)
held_same name files gs (Some f) None same e = absurd (cc e)
held_same name files gs (Some f) (Some g) same e = listed_same files gs same (listed name g.reads) ∙ ap (batches_listed files) (some_is (listed name g.reads) (listed name f.reads) e)

pub same_held : (name : List ℕ) (v w : Contents) → StaysFolder name v w → held name w ≡ held name v
same_held name v w stays = held_same name v.files w.files v.table w.table stays.files stays.table

pub same_at : (h i : Holdings) → Stays h i → (name : List ℕ) → table_at i name ≡ table_at h name
same_at h i stays name = same_held name (folder_at h name) (folder_at i name) (stays.folders name)

-- what is open of the later store is open of the earlier one
pub open_before : (h i : Holdings) (o : Open) → Stays h i → IsOpenIn i o → IsOpenIn h o
open_before h i o stays is =
    let here = stays.folders o.name in
    let t = some_there (λ (f : File). listed o.name f.reads) (folder_at i o.name).table (folder_at h o.name).table is.listed.table here.table is.listed.table_is in
    record {
      held = is.held ∙ same_held o.name (folder_at h o.name) (folder_at i o.name) here;
      listed = record {
        table = t.0;
        entries = is.listed.entries;
        table_is = t.1;
        lists = t.2 ∙ is.listed.lists;
        files = is.listed.files ∙ files_all (folder_at h o.name).files (folder_at i o.name).files here.files is.listed.entries;
      };
    }

stands_in : (v w : Contents) (es : List Entry) (d : Damage) → ((n : FileName) → w.files n ≡ v.files n) → StandsIn w es d → StandsIn v es d
stands_in v w es d same (inl c) = inl (subst (λ ds. Contains ds d) (damages_same v.files w.files same es) c)
stands_in v w es d same (inr (e, there, inl bad)) = inr (e, there, inl (subst (λ i. IsBadIndex e i d) (same (index_file e)) bad))
stands_in v w es d same (inr (e, there, inr (key, inl beyond))) = inr (e, there, inr (key, inl (subst (λ i. IsFindDamage e i key d) (same (index_file e)) beyond)))
stands_in v w es d same (inr (e, there, inr (key, inr digest))) = inr (e, there, inr (key, inr (subst (λ f. IsKeyDamage f key d) (files_same v.files w.files same e) digest)))

pub stands_before : (name : List ℕ) (v w : Contents) (b : Broken) → StaysFolder name v w → Stands name w b → Stands name v b
stands_before name v w (BadTable fault) stays (f, is, bad) =
    let t = some_there (λ (f : File). listed name f.reads) w.table v.table f stays.table is in (t.0, t.1, t.2 ∙ bad)
stands_before name v w (BadFile d) stays (f, es, is, lists, there) =
    let t = some_there (λ (f : File). listed name f.reads) w.table v.table f stays.table is in (t.0, es, t.1, t.2 ∙ lists, stands_in v w es d stays.files there)

pub said_before : {F : Type 0} (name : List ℕ) (v w : Contents) (e : OpenFault F) → StaysFolder name v w → StandsAsSaid name w e → StandsAsSaid name v e
said_before name v w (faults.Disk f) stays s = tt
said_before name v w (faults.NotATable at want found) stays s = stands_before name v w (BadTable (record { at = at; want = want; found = found })) stays s
said_before name v w (faults.Damaged d) stays s = stands_before name v w (BadFile d) stays s
said_before name v w (faults.TooMany count) stays s = tt
said_before name v w faults.NoMemory stays s = tt

-- what isn't damaged later wasn't before
pub undamaged_before : (name : List ℕ) (v w : Contents) → StaysFolder name v w → IsUndamaged name w → IsUndamaged name v
undamaged_before name v w stays sound = go v.table w.table stays.table sound
  where
    go : (a b : Option File) → option_map (λ f. listed name f.reads) b ≡ option_map (λ f. listed name f.reads) a → IfSome b (λ f. (es : List Entry) × (listed name f.reads ≡ Ok es) × (damages w.files es ≡ []))
        → IfSome a (λ f. (es : List Entry) × (listed name f.reads ≡ Ok es) × (damages v.files es ≡ []))
    go None b e sound = tt
    go (Some f) None e sound = absurd (cc e)
    go (Some f) (Some g) e (es, lists, none) = (es, sym (some_is (listed name g.reads) (listed name f.reads) e) ∙ lists, sym (damages_same v.files w.files stays.files es) ∙ none)
