-- The run, where a dataset can't be opened.
use Rattle.std.proofs.Common.{◌≡◌, ◌⊎◌, inl, inr, ℕ, ◌<◌, ◌++◌, true, false, List, length, Option, Some, None, IfSome, Ok, Err, refl, sym, subst, ◌∙◌, arith}
use Rattle.std.specs.Prelude.{Contains, String, string_bytes}
use Rattle.std.specs.declared.alloc.Global.{Global}
use Rattle.std.proofs.lemmas.List.{length-map}
use Rattle.fd_disk.specs.declared.file.File.{File}
use Rattle.fd_disk.specs.declared.folders.FileName.{FileName}
use Rattle.fd_disk.specs.Folders.{Contents, Holdings, WhereTold, folder_at}
use Rattle.fd_entries.specs.declared.table.Entry.{Entry}
use Rattle.fd_entries.specs.declared.table.NotATable.{NotATable}
use Rattle.fd_entries.specs.Table.{listed}
use Rattle.fd_segment.specs.declared.fault.Damage.{Damage}
use Rattle.fd_turn.specs.declared.board.Pass.{Pass}
use Rattle.fd_archiver.specs.Writing.{Writing}
use Rattle.fd_recovery.specs.declared.fault.OpenFault.{OpenFault}
use Rattle.fd_recovery.specs.declared.fault.OpenFault.TheVariants as opens
use Rattle.fd_recovery.specs.Causes.{OnDamaged, OnNotATable}
use Rattle.fd_recovery.specs.Damages.{IsFirst, damages}
use Rattle.fd_recovery.specs.Recovered.{WithTable}
use Rattle.fd_library.specs.Answers as libraries
use Rattle.fd_library.specs.Open.{OpenDatasets, among, names_of}
use Rattle.fd_library.specs.Stores.{LooksInto, held_with}
use Rattle.fd_stored.specs.Archiving.{Stored, datasets_in, is_too_many}
use Rattle.fd_stored.specs.Causes.{BadFile, BadTable}
use Rattle.fd_stored.specs.Store.{Stands}
use Rattle.fd_bulk.specs.declared.bulk.BulkFault.{BulkFault}
use Rattle.fd_bulk.specs.declared.bulk.BulkFault.TheVariants as faults
use Rattle.fd_shares.specs.declared.round.Job.{Job}
use Rattle.fd_shares.specs.declared.round.Parcel.{Parcel}
use Rattle.fd_bulk.specs.Crewing.{Closes, Deals, HoldsRest, IsUnopened, SaysDamaged, SaysNotATable, TooManyAt, Undealt}
use Rattle.fd_bulk.specs.Halting.{Each, IsSameJob}
use Rattle.fd_bulk.proofs.Keeping.{keeps_looked}
use Rattle.fd_bulk.proofs.Opened.{deals_closes, deals_same}
use Rattle.fd_bulk.proofs.Tellings.{at_first, both_told, held_outside, through}
use Rattle.fd_bulk.proofs.Texts.{not_too_many_few, too_many_new}

-- ---- as it is told

module _ {Z : Type 0} where
  pub record TellsTable (name : List ℕ) (bad : NotATable) (u : BulkFault Z) : Type 0 where
    pub dataset : String Global
    pub at : ℕ
    pub want : ℕ
    pub found : Option ℕ
    pub is : u ≡ faults.NotATable dataset at want found
    pub named : string_bytes dataset ≡ name
    pub same : record { at = at; want = want; found = found } ≡ bad

  tells_table : (name : List ℕ) (bad : NotATable) (u : BulkFault Z) → SaysNotATable name bad u → TellsTable name bad u ⊎ (u ≡ faults.NoMemory)
  tells_table name bad (faults.Input f) s = absurd s
  tells_table name bad (faults.Message m) s = absurd s
  tells_table name bad (faults.NoMap number field) s = absurd s
  tells_table name bad (faults.Cut t) s = absurd s
  tells_table name bad (faults.Key number why) s = absurd s
  tells_table name bad (faults.NoRule number text) s = absurd s
  tells_table name bad faults.Disk s = absurd s
  tells_table name bad (faults.NotATable dataset at want found) s = inl (record { dataset = dataset; at = at; want = want; found = found; is = refl; named = s.0; same = s.1 })
  tells_table name bad (faults.Damaged dataset damage) s = absurd s
  tells_table name bad (faults.TableFull count) s = absurd s
  tells_table name bad (faults.TooMany count) s = absurd s
  tells_table name bad faults.InputLimit s = absurd s
  tells_table name bad faults.NoMemory s = inr refl

  pub record TellsDamage (name : List ℕ) (d : Damage) (u : BulkFault Z) : Type 0 where
    pub dataset : String Global
    pub damage : Damage
    pub is : u ≡ faults.Damaged dataset damage
    pub named : string_bytes dataset ≡ name
    pub same : damage ≡ d

  tells_damage : (name : List ℕ) (d : Damage) (u : BulkFault Z) → SaysDamaged name d u → TellsDamage name d u ⊎ (u ≡ faults.NoMemory)
  tells_damage name d (faults.Input f) s = absurd s
  tells_damage name d (faults.Message bad) s = absurd s
  tells_damage name d (faults.NoMap number field) s = absurd s
  tells_damage name d (faults.Cut t) s = absurd s
  tells_damage name d (faults.Key number why) s = absurd s
  tells_damage name d (faults.NoRule number text) s = absurd s
  tells_damage name d faults.Disk s = absurd s
  tells_damage name d (faults.NotATable dataset at want found) s = absurd s
  tells_damage name d (faults.Damaged dataset damage) s = inl (record { dataset = dataset; damage = damage; is = refl; named = s.0; same = s.1 })
  tells_damage name d (faults.TableFull count) s = absurd s
  tells_damage name d (faults.TooMany count) s = absurd s
  tells_damage name d faults.InputLimit s = absurd s
  tells_damage name d faults.NoMemory s = inr refl

-- ---- what stands

module _ {D H X Y E : Type 0} (has : D → Option Contents) (kept : H → Option (FileName → Option (List ℕ))) (start : Option Holdings) (all waiting : List Stored) (name : List ℕ) (before after : Option Holdings) (l : OpenDatasets D) (ps : List (Pass X Y)) (js ks : List (Job (Writing H) (Pass X Y) E)) (parcels : List Parcel)
    (d : Deals has kept start before all waiting (datasets_in (all ++ waiting)) l ps js parcels) (e : Each (λ i. IsSameJob) js ks) (looks : WhereTold before after (LooksInto name)) (kept_held : WhereTold before after (λ s t. (n : List ℕ) → held_with has l.each t n ≡ held_with has l.each s n)) where
  same : Deals has kept start before all waiting (datasets_in (all ++ waiting)) l ps ks parcels
  same = deals_same has kept start all waiting before (datasets_in (all ++ waiting)) l ps js ks parcels e d

  rest_looked : WhereTold start after (HoldsRest (names_of l.each))
  rest_looked = through start before after (HoldsRest (names_of l.each)) (λ s t. LooksInto name s t × ((n : List ℕ) → held_with has l.each t n ≡ held_with has l.each s n)) (HoldsRest (names_of l.each)) d.crewed.rest
      (both_told before after (LooksInto name) (λ s t. (n : List ℕ) → held_with has l.each t n ≡ held_with has l.each s n) _ (λ s t p q. (p, q)) looks kept_held)
      (λ s b t first second. record {
        schema = second.0.schema ∙ first.schema;
        rest = λ n out. sym (held_outside has l.each t n out) ∙ second.1 n ∙ held_outside has l.each b n out ∙ first.rest n out;
        keeps = λ n out. keeps_looked name n s b t second.0 (first.keeps n out);
      })

  -- nothing was opened, and no message comes any more
  pub closes : Closes has kept start after all waiting l ps ks parcels
  closes =
      let c = deals_closes has kept start all waiting before (datasets_in (all ++ waiting)) l ps ks parcels same in
      record {
        crewed = record { some = c.crewed.some; few = c.crewed.few; opened = c.crewed.opened; each = c.crewed.each; works = c.crewed.works; rest = rest_looked };
        waits = c.waits;
      }

  module _ (new : among name (names_of l.each) ≡ false) where
    -- what stands in the store stood there at first
    stood : (P : Contents → Type 0) → IfSome before (λ s. P (folder_at s name)) → IfSome start (λ s. P (folder_at s name))
    stood P p = at_first start before (names_of l.each) name P d.untouched new p

    bad_table : (v : Contents) (fault : NotATable) → WithTable v.table (λ f. listed name f.reads ≡ Err fault) → Stands name v (BadTable fault)
    bad_table v fault x = go v.table refl x
      where
        go : (o : Option File) → v.table ≡ o → WithTable o (λ f. listed name f.reads ≡ Err fault) → Stands name v (BadTable fault)
        go None is x = absurd x
        go (Some f) is x = (f, is, x)

    bad_file : (v : Contents) (b : Damage) → WithTable v.table (λ f. (es : List Entry) × (listed name f.reads ≡ Ok es) × IsFirst b (damages v.files es)) → Stands name v (BadFile b)
    bad_file v b x = go v.table refl x
      where
        go : (o : Option File) → v.table ≡ o → WithTable o (λ f. (es : List Entry) × (listed name f.reads ≡ Ok es) × IsFirst b (damages v.files es)) → Stands name v (BadFile b)
        go None is x = absurd x
        go (Some f) is x = (f, x.0, is, x.1, inl (subst (λ (ds : List Damage). Contains ds b) (sym x.2.1) (0, omega arith, refl)))

    if_some : {P Q : Holdings → Type 0} (o : Option Holdings) → ((s : Holdings) → P s → Q s) → IfSome o P → IfSome o Q
    if_some None f p = tt
    if_some (Some s) f p = f s p

    names_long : length (names_of l.each) ≡ length l.each
    names_long = length-map l.each (λ h. h.name)

    few_yet : length l.each < 2048 → is_too_many (datasets_in (all ++ waiting)) name ≡ false
    few_yet lt = not_too_many_few (datasets_in (all ++ waiting)) name (let c = d.met.count in let m = names_long in omega (arith, lt, c, m))

    pub undealt : {F Z : Type 0} (fault : OpenFault F) (u : BulkFault Z) → IsUnopened name fault u → libraries.TooManyAt (length l.each) (libraries.IsWanted true before name) (Err fault)
        → OnNotATable fault (λ f. IfSome before (λ s. WithTable (folder_at s name).table (λ t. listed name t.reads ≡ Err f)))
        → OnDamaged fault (λ b. IfSome before (λ s. WithTable (folder_at s name).table (λ t. (es : List Entry) × (listed name t.reads ≡ Ok es) × IsFirst b (damages (folder_at s name).files es))))
        → Undealt has kept start after all waiting name (datasets_in (all ++ waiting)) u l ps ks parcels
    undealt (opens.Disk f) u is many table file = subst (λ (v : BulkFault _). Undealt has kept start after all waiting name (datasets_in (all ++ waiting)) v l ps ks parcels) (sym is) closes
    undealt (opens.NotATable a w fd) u is many table file = go (tells_table name (record { at = a; want = w; found = fd }) u is)
      where
        go : TellsTable name (record { at = a; want = w; found = fd }) u ⊎ (u ≡ faults.NoMemory) → Undealt has kept start after all waiting name (datasets_in (all ++ waiting)) u l ps ks parcels
        go (inl t) = subst (λ (v : BulkFault _). Undealt has kept start after all waiting name (datasets_in (all ++ waiting)) v l ps ks parcels) (sym t.is) (
          closes,
          t.named,
          subst (λ (f : NotATable). IfSome start (λ s. Stands name (folder_at s name) (BadTable f))) (sym t.same)
              (stood (λ v. Stands name v (BadTable (record { at = a; want = w; found = fd }))) (if_some before (λ s. bad_table (folder_at s name) (record { at = a; want = w; found = fd })) table)),
        )
        go (inr none) = subst (λ (v : BulkFault _). Undealt has kept start after all waiting name (datasets_in (all ++ waiting)) v l ps ks parcels) (sym none) closes
    undealt (opens.Damaged b) u is many table file = go (tells_damage name b u is)
      where
        go : TellsDamage name b u ⊎ (u ≡ faults.NoMemory) → Undealt has kept start after all waiting name (datasets_in (all ++ waiting)) u l ps ks parcels
        go (inl t) = subst (λ (v : BulkFault _). Undealt has kept start after all waiting name (datasets_in (all ++ waiting)) v l ps ks parcels) (sym t.is) (
          closes,
          t.named,
          subst (λ (x : Damage). IfSome start (λ s. Stands name (folder_at s name) (BadFile x))) (sym t.same) (stood (λ v. Stands name v (BadFile b)) (if_some before (λ s. bad_file (folder_at s name) b) file)),
        )
        go (inr none) = subst (λ (v : BulkFault _). Undealt has kept start after all waiting name (datasets_in (all ++ waiting)) v l ps ks parcels) (sym none) closes
    undealt (opens.TooMany count) u is many table file = subst (λ (v : BulkFault _). Undealt has kept start after all waiting name (datasets_in (all ++ waiting)) v l ps ks parcels) (sym is) (closes, d.met, many.1)
    undealt opens.NoMemory u is many table file = subst (λ (v : BulkFault _). Undealt has kept start after all waiting name (datasets_in (all ++ waiting)) v l ps ks parcels) (sym is) closes

    -- too many are answered exactly where there would be too many
    pub too_many_open : {F Z : Type 0} (wanted : Type 0) (fault : OpenFault F) (u : BulkFault Z) → IsUnopened name fault u → libraries.TooManyAt (length l.each) wanted (Err fault) → TooManyAt {A = ℕ} (is_too_many (datasets_in (all ++ waiting)) name) (Err u)
    too_many_open wanted (opens.Disk f) u is many = subst (λ (v : BulkFault _). TooManyAt {A = ℕ} (is_too_many (datasets_in (all ++ waiting)) name) (Err v)) (sym is) tt
    too_many_open wanted (opens.NotATable a w fd) u is many = go (tells_table name (record { at = a; want = w; found = fd }) u is)
      where
        go : TellsTable name (record { at = a; want = w; found = fd }) u ⊎ (u ≡ faults.NoMemory) → TooManyAt {A = ℕ} (is_too_many (datasets_in (all ++ waiting)) name) (Err u)
        go (inl t) = subst (λ (v : BulkFault _). TooManyAt {A = ℕ} (is_too_many (datasets_in (all ++ waiting)) name) (Err v)) (sym t.is) (few_yet many)
        go (inr none) = subst (λ (v : BulkFault _). TooManyAt {A = ℕ} (is_too_many (datasets_in (all ++ waiting)) name) (Err v)) (sym none) tt
    too_many_open wanted (opens.Damaged b) u is many = go (tells_damage name b u is)
      where
        go : TellsDamage name b u ⊎ (u ≡ faults.NoMemory) → TooManyAt {A = ℕ} (is_too_many (datasets_in (all ++ waiting)) name) (Err u)
        go (inl t) = subst (λ (v : BulkFault _). TooManyAt {A = ℕ} (is_too_many (datasets_in (all ++ waiting)) name) (Err v)) (sym t.is) (few_yet many)
        go (inr none) = subst (λ (v : BulkFault _). TooManyAt {A = ℕ} (is_too_many (datasets_in (all ++ waiting)) name) (Err v)) (sym none) tt
    too_many_open wanted (opens.TooMany count) u is many = subst (λ (v : BulkFault _). TooManyAt {A = ℕ} (is_too_many (datasets_in (all ++ waiting)) name) (Err v)) (sym is) (too_many_new (datasets_in (all ++ waiting)) name (d.met.among_is name ∙ new) (d.met.count ∙ names_long ∙ many.0))
    too_many_open wanted opens.NoMemory u is many = subst (λ (v : BulkFault _). TooManyAt {A = ℕ} (is_too_many (datasets_in (all ++ waiting)) name) (Err v)) (sym is) tt
