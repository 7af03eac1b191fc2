-- What holds where a purge or a wipe ends.
use Rattle.std.proofs.Common.{◌≡◌, ◌≢◌, nat_eq, ◌⊎◌, inl, inr, ◌∷◌, [], ℕ, zero, suc, true, false, List, map, length, Option, Some, None, Ok, IfSome, is_some, MatchOption, option_map, Contains, refl, sym, ◌∙◌, ap, subst, arith}
use Rattle.fd_disk.specs.declared.file.File.{File}
use Rattle.fd_disk.specs.declared.folders.FileName.{FileName}
use Rattle.fd_disk.specs.Folders.{Contents, Left, founded, with_table, without_table}
use Rattle.fd_disk.specs.Images.{synced}
use Rattle.fd_disk.specs.Renewals.{unfounded}
use Rattle.fd_entries.specs.declared.table.Entry.{Entry}
use Rattle.fd_entries.specs.declared.table.NotATable.{NotATable}
use Rattle.fd_entries.specs.Table.{listed}
use Rattle.fd_recovery.specs.Causes as opening
use Rattle.fd_recovery.specs.Damages.{IsFirst, damages, index_file}
use Rattle.fd_recovery.specs.Recovered.{AreTakenUp, WithTable, files_of, with_firm_table}
use Rattle.fd_recovery.specs.declared.fault.OpenFault.{OpenFault}
use Rattle.fd_recovery.specs.declared.fault.OpenFault.TheVariants as openings
use Rattle.fd_segment.specs.declared.fault.Damage.{Damage}
use Rattle.fd_segment.specs.Causes as segment
use Rattle.fd_segment.specs.Causes.{IsBadIndex}
use Rattle.fd_segment.specs.declared.fault.LensFault.{LensFault}
use Rattle.fd_segment.specs.declared.fault.LensFault.TheVariants as lenses
use Rattle.fd_segment.specs.Held.{Files, Standing}
use Rattle.fd_purge.specs.declared.fault.PurgeFault.{PurgeFault}
use Rattle.fd_purge.specs.declared.fault.PurgeFault.TheVariants as faults
use Rattle.fd_purge.specs.Carrying.{IsCarriedOut, IsMidway, IsUnderWay, LeavesMidway, LeavesUnderWay, thinned_by}
use Rattle.fd_purge.specs.Causes.{OnDamaged, OnNotATable, OnWriters, of_lens, of_opening}
use Rattle.fd_purge.specs.Kept.{masked, masks, unmasked}
use Rattle.fd_purge.specs.Purging.{HasWiped, IsDamagedIn, IsLeftByPurge, IsLeftByWipe, IsOver, IsPurged, IsWhole, first_over, keys_at, masks_of, read_of}
use Rattle.fd_purge.specs.Reads.{AreRead, IsAmongBad}
use Rattle.fd_purge.proofs.PurgeLemmas.{Opened, back_firm, read_all, read_firm, read_same, way_done, way_left, way_read, wipe_done, wipe_left, wipe_read}

-- ---- what ended the opening

within : (t : Option File) (P Q : File → Type 0) → ((f : File) → P f → Q f) → WithTable t P → WithTable t Q
within None P Q more h = h
within (Some f) P Q more h = more f h

module _ {F : Type 0} where
  pub opened_bad : (fault : OpenFault F) (P : NotATable → Type 0) → opening.OnNotATable fault P → OnNotATable (of_opening fault) P
  opened_bad (openings.Disk f) P h = tt
  opened_bad (openings.NotATable at want found) P h = h
  opened_bad (openings.Damaged d) P h = tt
  opened_bad (openings.TooMany count) P h = tt
  opened_bad openings.NoMemory P h = tt

  pub opened_damaged : (fault : OpenFault F) (P Q : Damage → Type 0) → ((d : Damage) → P d → Q d) → opening.OnDamaged fault P → OnDamaged (of_opening fault) Q
  opened_damaged (openings.Disk f) P Q more h = tt
  opened_damaged (openings.NotATable at want found) P Q more h = tt
  opened_damaged (openings.Damaged d) P Q more h = more d h
  opened_damaged (openings.TooMany count) P Q more h = tt
  opened_damaged openings.NoMemory P Q more h = tt

  pub opened_writers : (fault : OpenFault F) (P : ℕ → ℕ → Type 0) → OnWriters (of_opening fault) P
  opened_writers (openings.Disk f) P = tt
  opened_writers (openings.NotATable at want found) P = tt
  opened_writers (openings.Damaged d) P = tt
  opened_writers (openings.TooMany count) P = tt
  opened_writers openings.NoMemory P = tt

  -- what ended the sorting out
  pub sorted_bad : (e : PurgeFault F) (P : NotATable → Type 0) → OnNotATable e (λ fault. ⊥) → OnNotATable e P
  sorted_bad (faults.Disk f) P h = tt
  sorted_bad (faults.NotATable at want found) P h = absurd h
  sorted_bad (faults.Damaged d) P h = tt
  sorted_bad (faults.Writers entry writer) P h = tt
  sorted_bad faults.NoMemory P h = tt

  pub sorted_damaged : (e : PurgeFault F) (P Q : Damage → Type 0) → ((d : Damage) → P d → Q d) → OnDamaged e P → OnDamaged e Q
  sorted_damaged (faults.Disk f) P Q more h = tt
  sorted_damaged (faults.NotATable at want found) P Q more h = tt
  sorted_damaged (faults.Damaged d) P Q more h = more d h
  sorted_damaged (faults.Writers entry writer) P Q more h = tt
  sorted_damaged faults.NoMemory P Q more h = tt

  pub sorted_writers : (e : PurgeFault F) (P Q : ℕ → ℕ → Type 0) → ((entry writer : ℕ) → P entry writer → Q entry writer) → OnWriters e P → OnWriters e Q
  sorted_writers (faults.Disk f) P Q more h = tt
  sorted_writers (faults.NotATable at want found) P Q more h = tt
  sorted_writers (faults.Damaged d) P Q more h = tt
  sorted_writers (faults.Writers entry writer) P Q more h = more entry writer h
  sorted_writers faults.NoMemory P Q more h = tt

-- what ended the reading of an index
module _ {F : Type 0} where
  pub lens_bad : (fault : LensFault F) (P : NotATable → Type 0) → OnNotATable (of_lens fault) P
  lens_bad (lenses.Fault f) P = tt
  lens_bad (lenses.Damaged d) P = tt
  lens_bad lenses.NoMemory P = tt

  pub lens_damaged : (fault : LensFault F) (P : Damage → Type 0) → segment.OnDamaged fault P → OnDamaged (of_lens fault) P
  lens_damaged (lenses.Fault f) P h = tt
  lens_damaged (lenses.Damaged d) P h = h
  lens_damaged lenses.NoMemory P h = tt

  pub lens_writers : (fault : LensFault F) (P : ℕ → ℕ → Type 0) → OnWriters (of_lens fault) P
  lens_writers (lenses.Fault f) P = tt
  lens_writers (lenses.Damaged d) P = tt
  lens_writers lenses.NoMemory P = tt

pub first_damaged : (dataset : List ℕ) (old : Option Contents) (d : Damage) → IfSome old (λ v. WithTable v.table (λ f. (es : List Entry) × (listed dataset f.reads ≡ Ok es) × IsFirst d (damages v.files es))) → IfSome old (IsDamagedIn dataset d)
first_damaged dataset None d h = tt
first_damaged dataset (Some v) d h = within v.table _ _ (λ f x. (x.0, x.1, inl x.2)) h

-- ---- what the folder has

pub untabled : (old new : Option Contents) → IfSome old (λ v. false ≡ is_some v.table) → new ≡ option_map without_table old → new ≡ old
untabled None new none is = is
untabled (Some v) new none is = is ∙ go v.table none
  where
    go : (t : Option File) → false ≡ is_some t → Some (without_table v) ≡ Some (record { table = t; files = v.files })
    go None h = refl
    go (Some f) h = absurd (cc h)

pub back_is : (old mid new : Option Contents) (file : Option File) → mid ≡ option_map without_table old → IfSome old (λ v. file ≡ option_map synced v.table) → IfSome old (λ v. true ≡ is_some v.table) → new ≡ with_table file mid
    → new ≡ option_map with_firm_table old
back_is None mid new file is firm some back = back ∙ ap (with_table file) is ∙ none file
  where
    none : (t : Option File) → with_table t None ≡ None
    none None = refl
    none (Some f) = refl
back_is (Some v) mid new file is firm some back = back ∙ ap (with_table file) is ∙ back_firm v file firm (sym some)

pub left_unmoved : (P : Contents → Left → Type 0) (old new : Option Contents) → ((v : Contents) (left : Left) → IsWhole v left → P v left) → (new ≡ old) ⊎ (new ≡ option_map with_firm_table old) → IfSome old (λ v. MatchOption new ⊥ (λ w. P v (read_of w)))
left_unmoved P None new whole is = tt
left_unmoved P (Some v) new whole (inl is) = subst (λ (o : Option Contents). MatchOption o ⊥ (λ w. P v (read_of w))) (sym is) (whole v (read_of v) (read_same v))
left_unmoved P (Some v) new whole (inr is) = subst (λ (o : Option Contents). MatchOption o ⊥ (λ w. P v (read_of w))) (sym is) (whole v (read_of (with_firm_table v)) (read_firm v))

-- ---- what was opened

pub all_read : (dataset : List ℕ) (old : Option Contents) (es : List Entry) (ss : List Standing) → AreTakenUp dataset old es ss → IfSome old (λ v. damages v.files es ≡ []) → IfSome old (λ v. AreRead ss (map (keys_at v.files) es))
all_read dataset None es ss taken sound = tt
all_read dataset (Some v) es ss taken sound = read_all v.files es ss taken.files sound

pub opened_as : (dataset : List ℕ) (old : Option Contents) (file : Option File) (es dropped kept_ones : List Entry) (ss : List Standing) → IfSome old (λ v. true ≡ is_some v.table) → IfSome old (λ v. IfSome v.table (λ f. listed dataset f.reads ≡ Ok es))
    → IfSome old (λ v. file ≡ option_map synced v.table) → IfSome old (λ v. AreRead ss (map (keys_at v.files) es)) → ((kss : List (List (List ℕ))) → AreRead ss kss → dropped ≡ masked (masks kss) es)
    → ((kss : List (List (List ℕ))) → AreRead ss kss → kept_ones ≡ unmasked (masks kss) es) → IfSome old (λ v. Opened dataset v file es dropped kept_ones)
opened_as dataset None file es dropped kept_ones ss some lists firm read dropped_are kept_are = tt
opened_as dataset (Some v) file es dropped kept_ones ss some lists firm read dropped_are kept_are = go v.table refl some lists
  where
    go : (t : Option File) → v.table ≡ t → true ≡ is_some t → IfSome t (λ f. listed dataset f.reads ≡ Ok es) → Opened dataset v file es dropped kept_ones
    go None is h lists = absurd (cc h)
    go (Some f) is h lists = record { table = f; is = is; lists = lists; firm = firm; dropped_are = dropped_are (map (keys_at v.files) es) read; kept_are = kept_are (map (keys_at v.files) es) read }

-- ---- a refusal of what was sorted out

among_files : (files : FileName → Option (List ℕ)) (es : List Entry) (ss : List Standing) (s : Standing) → map (λ (x : Standing). x.files) ss ≡ map (files_of files) es → Contains ss s → (e : Entry) × Contains es e × (s.files ≡ files_of files e)
among_files files [] [] s same (k, lt, is) = absurd (omega (arith, lt))
among_files files [] (x ∷ ss) s same among = absurd (cc same)
among_files files (e ∷ es) [] s same (k, lt, is) = absurd (omega (arith, lt))
among_files files (e ∷ es) (x ∷ ss) s same (zero, lt, is) = let head : x.files ≡ files_of files e = cc same in (e, (zero, omega arith, refl), ap (λ (y : Standing). y.files) (sym is) ∙ head)
among_files files (e ∷ es) (x ∷ ss) s same (suc k, lt, is) =
    let tail : map (λ (y : Standing). y.files) ss ≡ map (files_of files) es = cc same in
    let more = among_files files es ss s tail (k, omega (arith, lt), is) in
    (more.0, next more.0 more.1, more.2)
  where
    next : (y : Entry) → Contains es y → Contains (e ∷ es) y
    next y (n, less, at) = (suc n, omega (arith, less), at)

pub bad_among : (dataset : List ℕ) (old : Option Contents) (es : List Entry) (ss : List Standing) (d : Damage) → IfSome old (λ v. true ≡ is_some v.table) → IfSome old (λ v. IfSome v.table (λ f. listed dataset f.reads ≡ Ok es))
    → AreTakenUp dataset old es ss → IsAmongBad ss d → IfSome old (IsDamagedIn dataset d)
bad_among dataset None es ss d some lists taken bad = tt
bad_among dataset (Some v) es ss d some lists taken bad = go v.table some lists
  where
    here : (e : Entry) × Contains es e × IsBadIndex e (v.files (index_file e)) d
    here = let a = among_files v.files es ss bad.0 taken.files bad.1 in (a.0, a.1, subst (λ (f : Files). IsBadIndex f.entry f.index d) a.2 bad.2)

    go : (t : Option File) → true ≡ is_some t → IfSome t (λ f. listed dataset f.reads ≡ Ok es) → WithTable t (λ f. (xs : List Entry) × (listed dataset f.reads ≡ Ok xs) × (IsFirst d (damages v.files xs) ⊎ ((e : Entry) × Contains xs e × IsBadIndex e (v.files (index_file e)) d)))
    go None h lists = absurd (cc h)
    go (Some f) h lists = (es, lists, inr here)

pub over_read : (dataset : List ℕ) (old : Option Contents) (es : List Entry) (ss : List Standing) (entry writer : ℕ) → IfSome old (λ v. true ≡ is_some v.table) → IfSome old (λ v. IfSome v.table (λ f. listed dataset f.reads ≡ Ok es))
    → IfSome old (λ v. AreRead ss (map (keys_at v.files) es)) → ((kss : List (List (List ℕ))) → AreRead ss kss → first_over 0 0 (masks kss) es ≡ Some (entry, writer)) → IfSome old (IsOver dataset entry writer)
over_read dataset None es ss entry writer some lists read over = tt
over_read dataset (Some v) es ss entry writer some lists read over = go v.table some lists
  where
    go : (t : Option File) → true ≡ is_some t → IfSome t (λ f. listed dataset f.reads ≡ Ok es) → WithTable t (λ f. (xs : List Entry) × (listed dataset f.reads ≡ Ok xs) × (first_over 0 0 (masks_of v.files xs) xs ≡ Some (entry, writer)))
    go None h lists = absurd (cc h)
    go (Some f) h lists = (es, lists, over (map (keys_at v.files) es) read)

-- ---- the end of a purge

module _ (dataset : List ℕ) (file : Option File) (es dropped kept_ones : List Entry) where
  there_with : (v : Contents) (o : Opened dataset v file es dropped kept_ones) → with_table file (Some (without_table v)) ≡ Some (with_firm_table v)
  there_with v o = back_firm v file o.firm (ap is_some o.is)

  carried_some : (v : Contents) (new : Option Contents) → Opened dataset v file es dropped kept_ones → IsCarriedOut dataset file dropped kept_ones (Some (without_table v)) new → (w : Contents) × (new ≡ Some w)
  carried_some v new o (inl (none, is)) = (with_firm_table v, is ∙ there_with v o)
  carried_some v new o (inr (some, bytes, lists, is)) = (thinned_by dropped kept_ones (founded bytes (without_table v)), is)

  way_some : (v : Contents) (new : Option Contents) → Opened dataset v file es dropped kept_ones → IsUnderWay dataset file dropped kept_ones (Some (without_table v)) new → (w : Contents) × (new ≡ Some w)
  way_some v None o (inl is) = absurd (cc (is ∙ there_with v o))
  way_some v None o (inr (bytes, lists, thin)) = absurd thin
  way_some v (Some w) o is = (w, refl)

  pub carried_there : (old mid new : Option Contents) → IfSome old (λ v. Opened dataset v file es dropped kept_ones) → mid ≡ option_map without_table old → IsCarriedOut dataset file dropped kept_ones mid new → IfSome old (λ v. (w : Contents) × (new ≡ Some w))
  carried_there None mid new o is carried = tt
  carried_there (Some v) mid new o is carried = carried_some v new o (subst (λ (x : Option Contents). IsCarriedOut dataset file dropped kept_ones x new) is carried)

  pub way_there : (old mid new : Option Contents) → IfSome old (λ v. Opened dataset v file es dropped kept_ones) → mid ≡ option_map without_table old → IsUnderWay dataset file dropped kept_ones mid new → IfSome old (λ v. (w : Contents) × (new ≡ Some w))
  way_there None mid new o is way = tt
  way_there (Some v) mid new o is way = way_some v new o (subst (λ (x : Option Contents). IsUnderWay dataset file dropped kept_ones x new) is way)

  pub purged_as : (old mid new : Option Contents) (d k : ℕ) → IfSome old (λ v. Opened dataset v file es dropped kept_ones) → mid ≡ option_map without_table old → d ≡ length dropped → k ≡ length kept_ones
      → IfSome old (λ v. first_over 0 0 (masks_of v.files es) es ≡ None) → IsCarriedOut dataset file dropped kept_ones mid new → IfSome old (λ v. IfSome new (λ w. IsPurged dataset v w d k))
  purged_as None mid new d k o is d_is k_is fits carried = tt
  purged_as (Some v) mid None d k o is d_is k_is fits carried = tt
  purged_as (Some v) mid (Some w) d k o is d_is k_is fits carried =
      way_done dataset v file es dropped kept_ones o w d k d_is k_is fits (subst (λ (x : Option Contents). IsCarriedOut dataset file dropped kept_ones x (Some w)) is carried)

  -- where nothing was dropped, nothing was written
  pub carried_none : (old mid new : Option Contents) (d : ℕ) → IfSome old (λ v. Opened dataset v file es dropped kept_ones) → mid ≡ option_map without_table old → d ≡ length dropped → d ≡ 0
      → IsCarriedOut dataset file dropped kept_ones mid new → new ≡ option_map with_firm_table old
  carried_none old mid new d o is count none (inl (same, back)) = back_is old mid new file is (firm_of old o) (some_of old o) back
    where
      firm_of : (x : Option Contents) → IfSome x (λ v. Opened dataset v file es dropped kept_ones) → IfSome x (λ v. file ≡ option_map synced v.table)
      firm_of None h = tt
      firm_of (Some v) h = h.firm

      some_of : (x : Option Contents) → IfSome x (λ v. Opened dataset v file es dropped kept_ones) → IfSome x (λ v. true ≡ is_some v.table)
      some_of None h = tt
      some_of (Some v) h = sym (ap is_some h.is)
  carried_none old mid new d o is count none (inr (some, bytes, lists, back)) = absurd (some (empty dropped (sym count ∙ none)))
    where
      empty : (l : List Entry) → length l ≡ 0 → l ≡ []
      empty [] h = refl
      empty (x ∷ l) h = absurd (omega (arith, h))

  pub way_refused : (old mid new : Option Contents) → IfSome old (λ v. Opened dataset v file es dropped kept_ones) → mid ≡ option_map without_table old → IsUnderWay dataset file dropped kept_ones mid new
      → IfSome old (λ v. MatchOption new ⊥ (λ w. IsLeftByPurge dataset v (read_of w)))
  way_refused None mid new o is way = tt
  way_refused (Some v) mid new o is way = go new (subst (λ (x : Option Contents). IsUnderWay dataset file dropped kept_ones x new) is way)
    where
      go : (n : Option Contents) → IsUnderWay dataset file dropped kept_ones (Some (without_table v)) n → MatchOption n ⊥ (λ w. IsLeftByPurge dataset v (read_of w))
      go None h = let s = way_some v None o h in absurd (cc s.1)
      go (Some w) h = way_read dataset v file es dropped kept_ones o w h

  pub way_more : (old mid : Option Contents) → IfSome old (λ v. Opened dataset v file es dropped kept_ones) → mid ≡ option_map without_table old → (v : Contents) (left : Left) → old ≡ Some v → LeavesUnderWay dataset file dropped kept_ones mid left → IsLeftByPurge dataset v left
  way_more old mid o is v left same leaves =
      let here : Opened dataset v file es dropped kept_ones = subst (λ (x : Option Contents). IfSome x (λ u. Opened dataset u file es dropped kept_ones)) same o in
      way_left dataset v file es dropped kept_ones here left (subst (λ (x : Option Contents). LeavesUnderWay dataset file dropped kept_ones x left) (is ∙ ap (option_map without_table) same) leaves)

-- ---- the end of a wipe

-- what is known of a dataset whose table was opened
abbrev pub Known : List ℕ → Contents → Option File → List Entry → Type 0
Known dataset v file es = (f : File) × (v.table ≡ Some f) × (listed dataset f.reads ≡ Ok es) × (file ≡ option_map synced v.table)

pub known_as : (dataset : List ℕ) (old : Option Contents) (file : Option File) (es : List Entry) → IfSome old (λ v. true ≡ is_some v.table) → IfSome old (λ v. IfSome v.table (λ f. listed dataset f.reads ≡ Ok es))
    → IfSome old (λ v. file ≡ option_map synced v.table) → IfSome old (λ v. Known dataset v file es)
known_as dataset None file es some lists firm = tt
known_as dataset (Some v) file es some lists firm = go v.table refl some lists
  where
    go : (t : Option File) → v.table ≡ t → true ≡ is_some t → IfSome t (λ f. listed dataset f.reads ≡ Ok es) → Known dataset v file es
    go None is h lists = absurd (cc h)
    go (Some f) is h lists = (f, is, lists, firm)

pub known_firm : (dataset : List ℕ) (old : Option Contents) (file : Option File) (es : List Entry) → IfSome old (λ v. Known dataset v file es) → IfSome old (λ v. (file ≡ option_map synced v.table) × (is_some v.table ≡ true))
known_firm dataset None file es k = tt
known_firm dataset (Some v) file es k = (k.3, ap is_some k.1)

pub opened_firm : (dataset : List ℕ) (old : Option Contents) (file : Option File) (es dropped kept_ones : List Entry) → IfSome old (λ v. Opened dataset v file es dropped kept_ones) → IfSome old (λ v. (file ≡ option_map synced v.table) × (is_some v.table ≡ true))
opened_firm dataset None file es dropped kept_ones o = tt
opened_firm dataset (Some v) file es dropped kept_ones o = (o.firm, ap is_some o.is)

module _ (dataset : List ℕ) (file : Option File) (es : List Entry) where
  midway_some : (v : Contents) (new : Option Contents) → Known dataset v file es → IsMidway file (λ x. unfounded x) es [] (Some (without_table v)) new → (w : Contents) × (new ≡ Some w)
  midway_some v None k (inl is) = absurd (cc (is ∙ back_firm v file k.3 (ap is_some k.1)))
  midway_some v None k (inr thin) = absurd thin
  midway_some v (Some w) k is = (w, refl)

  pub midway_there : (old mid new : Option Contents) → IfSome old (λ v. Known dataset v file es) → mid ≡ option_map without_table old → IsMidway file (λ x. unfounded x) es [] mid new → IfSome old (λ v. (w : Contents) × (new ≡ Some w))
  midway_there None mid new k is way = tt
  midway_there (Some v) mid new k is way = midway_some v new k (subst (λ (x : Option Contents). IsMidway file (λ y. unfounded y) es [] x new) is way)

  pub wiped_there : (old mid new : Option Contents) → mid ≡ option_map without_table old → new ≡ option_map (λ x. thinned_by es [] (unfounded x)) mid → IfSome old (λ v. (w : Contents) × (new ≡ Some w))
  wiped_there None mid new is done = tt
  wiped_there (Some v) mid new is done = (thinned_by es [] (unfounded (without_table v)), done ∙ ap (option_map (λ x. thinned_by es [] (unfounded x))) is)

  pub wiped_as : (old mid new : Option Contents) (n : ℕ) → IfSome old (λ v. Known dataset v file es) → mid ≡ option_map without_table old → n ≡ length es → new ≡ option_map (λ x. thinned_by es [] (unfounded x)) mid
      → IfSome old (λ v. IfSome new (λ w. HasWiped dataset v w n))
  wiped_as None mid new n k is count done = tt
  wiped_as (Some v) mid None n k is count done = tt
  wiped_as (Some v) mid (Some w) n k is count done = wipe_done dataset v file es k.0 k.1 k.2 k.3 w n count (done ∙ ap (option_map (λ x. thinned_by es [] (unfounded x))) is)

  pub wipe_refused : (old mid new : Option Contents) → IfSome old (λ v. Known dataset v file es) → mid ≡ option_map without_table old → IsMidway file (λ x. unfounded x) es [] mid new → IfSome old (λ v. MatchOption new ⊥ (λ w. IsLeftByWipe dataset v (read_of w)))
  wipe_refused None mid new k is way = tt
  wipe_refused (Some v) mid new k is way = go new (subst (λ (x : Option Contents). IsMidway file (λ y. unfounded y) es [] x new) is way)
    where
      go : (n : Option Contents) → IsMidway file (λ x. unfounded x) es [] (Some (without_table v)) n → MatchOption n ⊥ (λ w. IsLeftByWipe dataset v (read_of w))
      go None h = let s = midway_some v None k h in absurd (cc s.1)
      go (Some w) h = wipe_read dataset v file es k.0 k.1 k.2 k.3 w h

  pub wipe_more : (old mid : Option Contents) → IfSome old (λ v. Known dataset v file es) → mid ≡ option_map without_table old → (v : Contents) (left : Left) → old ≡ Some v → LeavesMidway file (λ x. unfounded x) es [] mid left → IsLeftByWipe dataset v left
  wipe_more old mid k is v left same leaves =
      let here : Known dataset v file es = subst (λ (x : Option Contents). IfSome x (λ u. Known dataset u file es)) same k in
      wipe_left dataset v file es here.0 here.1 here.2 here.3 left (subst (λ (x : Option Contents). LeavesMidway file (λ y. unfounded y) es [] x left) (is ∙ ap (option_map without_table) same) leaves)

-- ---- on the way

pub under_way : (dataset : List ℕ) (file : Option File) (dropped kept_ones : List Entry) (old new : Option Contents) (bytes : List ℕ) → listed dataset bytes ≡ Ok kept_ones → IsMidway file (λ v. founded bytes v) dropped kept_ones old new
    → IsUnderWay dataset file dropped kept_ones old new
under_way dataset file dropped kept_ones old new bytes lists (inl is) = inl is
under_way dataset file dropped kept_ones old new bytes lists (inr thin) = inr (bytes, lists, thin)

pub under_way_left : (dataset : List ℕ) (file : Option File) (dropped kept_ones : List Entry) (old : Option Contents) (left : Left) (bytes : List ℕ) → listed dataset bytes ≡ Ok kept_ones → LeavesMidway file (λ v. founded bytes v) dropped kept_ones old left
    → LeavesUnderWay dataset file dropped kept_ones old left
under_way_left dataset file dropped kept_ones old left bytes lists (inl is) = inl is
under_way_left dataset file dropped kept_ones old left bytes lists (inr thin) = inr (bytes, lists, thin)

-- the same of lists and bytes that are those
module _ (dataset : List ℕ) (file : Option File) (dropped kept_ones d k : List Entry) (old : Option Contents) (bytes b : List ℕ) (d_is : d ≡ dropped) (k_is : k ≡ kept_ones) (b_is : b ≡ bytes) (lists : listed dataset bytes ≡ Ok kept_ones) where
  pub under_way_by : (new : Option Contents) → IsMidway file (λ v. founded b v) d k old new → IsUnderWay dataset file dropped kept_ones old new
  under_way_by new way =
      under_way dataset file dropped kept_ones old new b (ap (listed dataset) b_is ∙ lists)
      (subst (λ (l : List Entry). IsMidway file (λ v. founded b v) l kept_ones old new) d_is (subst (λ (l : List Entry). IsMidway file (λ v. founded b v) d l old new) k_is way))

  pub under_way_left_by : (left : Left) → LeavesMidway file (λ v. founded b v) d k old left → LeavesUnderWay dataset file dropped kept_ones old left
  under_way_left_by left way =
      under_way_left dataset file dropped kept_ones old left b (ap (listed dataset) b_is ∙ lists)
      (subst (λ (l : List Entry). LeavesMidway file (λ v. founded b v) l kept_ones old left) d_is (subst (λ (l : List Entry). LeavesMidway file (λ v. founded b v) d l old left) k_is way))

  pub carried_by : (new : Option Contents) (count : ℕ) → count ≡ length dropped → nat_eq count 0 ≡ false → new ≡ option_map (λ v. thinned_by d k (founded b v)) old → IsCarriedOut dataset file dropped kept_ones old new
  carried_by new count count_is some done =
      inr (
        some_dropped dropped (ap (λ (n : ℕ). nat_eq n 0) (sym count_is) ∙ some),
        b,
        ap (listed dataset) b_is ∙ lists,
        done ∙ ap (λ (l : List Entry). option_map (λ v. thinned_by l k (founded b v)) old) d_is ∙ ap (λ (l : List Entry). option_map (λ v. thinned_by dropped l (founded b v)) old) k_is,
      )
    where
      some_dropped : (l : List Entry) → nat_eq (length l) 0 ≡ false → l ≢ []
      some_dropped [] h = absurd (cc h)
      some_dropped (x ∷ l) h = λ is. absurd (cc is)

pub some_there : (old new : Option Contents) → IfSome old (λ v. (w : Contents) × (new ≡ Some w)) → IfSome old (λ v. is_some new ≡ true)
some_there None new there = tt
some_there (Some v) new there = ap is_some there.1

pub fits_read : (old : Option Contents) (es : List Entry) (ss : List Standing) → IfSome old (λ v. AreRead ss (map (keys_at v.files) es)) → ((kss : List (List (List ℕ))) → AreRead ss kss → first_over 0 0 (masks kss) es ≡ None)
    → IfSome old (λ v. first_over 0 0 (masks_of v.files es) es ≡ None)
fits_read None es ss read fits = tt
fits_read (Some v) es ss read fits = fits (map (keys_at v.files) es) read
