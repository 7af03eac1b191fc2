-- What the answers of the calls say, and what they leave.
use Rattle.std.proofs.Common.{◌≡◌, ◌∙◌, ℕ, Bool, true, false, true≢false, List, Option, Some, None, refl, sym, ap, ap₂, subst, inl, inr, arith}
use Rattle.std.specs.Prelude.{◌⊎◌, IfSome, Contains, MatchOption, Result, Ok, Err, is_some, length, option_map}
use Rattle.fd_disk.specs.declared.file.File.{File}
use Rattle.fd_disk.specs.Folders.{Contents, Holdings, SameBut, WhereTold, folder_at}
use Rattle.fd_entries.specs.declared.table.Entry.{Entry}
use Rattle.fd_entries.specs.declared.table.NotATable.{NotATable}
use Rattle.fd_entries.specs.Table.{listed}
use Rattle.fd_recovery.specs.Damages.{IsFirst, damages, index_file}
use Rattle.fd_recovery.specs.Recovered.{WithTable}
use Rattle.fd_schema.specs.Rules.{Rule}
use Rattle.fd_segment.specs.Causes.{IsBadIndex}
use Rattle.fd_segment.specs.declared.fault.Damage.{Damage}
use Rattle.fd_outcome.specs.Asking.{rules_of}
use Rattle.fd_stored.specs.Causes as causes
use Rattle.fd_stored.specs.Causes.{BadFile, BadTable, Cause}
use Rattle.fd_outcome.specs.Outcome.{Outcome, reclaimed, refused, reported}
use Rattle.fd_outcome.specs.Reclaiming.{InDataset, PurgeDone, of_table, purge_text, purge_told, purged_line, unless_over, wipe_told, wiped_line}
use Rattle.fd_stored.specs.Store.{Stands, StandsIn}
use Rattle.fd_purge.specs.declared.fault.PurgeFault.{PurgeFault}
use Rattle.fd_purge.specs.declared.fault.PurgeFault.TheVariants as faults
use Rattle.fd_purge.specs.Causes.{NoWriters, OnDamaged, OnNotATable, OnWriters}
use Rattle.fd_purge.specs.Kept.{masked, unmasked}
use Rattle.fd_purge.specs.Purging.{HasWiped, IsDamagedIn, IsOver, IsPurged, first_over, masks_of}
use Rattle.fd_reclaim.specs.declared.halt.Halt.{Halt}
use Rattle.fd_reclaim.specs.declared.halt.Halt.TheVariants as halts
use Rattle.fd_reclaim.specs.Halts.{IsRuled, LeavesHalted, Says, Unrules, of_fault}
use Rattle.fd_reclaim.proofs.Leaving.{dataset_map, refused_told, same_told, some_both, some_map, stands_told}

-- ---- where the schema has no rules

module _ {F : Type 0} where
  stop_says : (halt : Halt F) (r : Result (List Rule) Cause) (dataset : List ℕ) (h : Holdings) (told : Option (Result (List ℕ) Cause)) → Unrules halt r → Says halt dataset h (reclaimed r told)
  stop_says (halts.Disk f) r dataset h told s = tt
  stop_says halts.Missing r dataset h told s = ap (λ x. reclaimed x told) s
  stop_says (halts.Schema line kind) r dataset h told (text, fault, first, is) = (text, fault, first, ap (λ x. reclaimed x told) is)
  stop_says halts.NoDataset r dataset h told s = absurd s
  stop_says (halts.Damaged broken) r dataset h told s = absurd s
  stop_says (halts.Writers entry writer) r dataset h told s = absurd s
  stop_says halts.NoMemory r dataset h told s = tt

  stop_leaves : (halt : Halt F) (r : Result (List Rule) Cause) (P : Contents → Contents → Type 0) (v : Contents) → P v v → Unrules halt r → LeavesHalted halt P v v
  stop_leaves (halts.Disk f) r P v p s = p
  stop_leaves halts.Missing r P v p s = refl
  stop_leaves (halts.Schema line kind) r P v p s = p
  stop_leaves halts.NoDataset r P v p s = absurd s
  stop_leaves (halts.Damaged broken) r P v p s = absurd s
  stop_leaves (halts.Writers entry writer) r P v p s = absurd s
  stop_leaves halts.NoMemory r P v p s = p

  pub unruled_says : (dataset : List ℕ) (told : Contents → Option (Result (List ℕ) Cause)) (a : Option Holdings) (halt : Halt F) → IfSome a (λ h. Unrules halt (rules_of h.schema))
      → IfSome a (λ h. Says halt dataset h (reclaimed (rules_of h.schema) (told (folder_at h dataset))))
  unruled_says dataset told a halt s = some_map a _ _ (λ h x. stop_says halt (rules_of h.schema) dataset h (told (folder_at h dataset)) x) s

  pub unruled_leaves : (dataset : List ℕ) (P : Contents → Contents → Type 0) → ((v : Contents) → P v v) → (a b : Option Holdings) (halt : Halt F) → b ≡ a → IfSome a (λ h. Unrules halt (rules_of h.schema))
      → WhereTold a b (InDataset dataset (LeavesHalted halt P))
  unruled_leaves dataset P idle a b halt same s =
      same_told dataset (LeavesHalted halt P) a b same (some_map a _ _ (λ h x. stop_leaves halt (rules_of h.schema) P (folder_at h dataset) (idle (folder_at h dataset)) x) s)

-- ---- where it has

ruled_by : (r : Result (List Rule) Cause) (told : Option (Result (List ℕ) Cause)) (x : Result (List ℕ) Cause) → IsRuled r → told ≡ Some x → reclaimed r told ≡ Some (reported x)
ruled_by r told x (rules, is) e = ap₂ reclaimed is e

-- what the table lists
lists_at : (dataset : List ℕ) (v : Contents) (f : File) (es : List Entry) (text : List Entry → Result (List ℕ) Cause) → v.table ≡ Some f → listed dataset f.reads ≡ Ok es
    → of_table (option_map (λ (f : File). listed dataset f.reads) v.table) text ≡ Some (text es)
lists_at dataset v f es text is lists = ap (λ (t : Option File). of_table (option_map (λ (f : File). listed dataset f.reads) t) text) is ∙ ap (λ r. of_table (Some r) text) lists

purged_tells : (dataset : List ℕ) (v w : Contents) (d k : ℕ) → IsPurged dataset v w d k → purge_told dataset v ≡ Some (Ok (purged_line d k))
purged_tells dataset v w d k p =
    lists_at dataset v p.file p.entries (purge_text v.files) p.is p.lists
    ∙ ap (λ o. Some (unless_over o (purged_line (length (masked (masks_of v.files p.entries) p.entries)) (length (unmasked (masks_of v.files p.entries) p.entries))))) p.within
    ∙ ap₂ (λ m n. Some (Ok (purged_line m n))) (sym p.dropped_is) (sym p.kept_is)

wiped_tells : (dataset : List ℕ) (v w : Contents) (n : ℕ) → HasWiped dataset v w n → wipe_told dataset v ≡ Some (Ok (wiped_line n))
wiped_tells dataset v w n p = lists_at dataset v p.file p.entries (λ es. Ok (wiped_line (length es))) p.is p.lists ∙ ap (λ m. Some (Ok (wiped_line m))) (sym p.count_is)

-- of both stores, where the one is told the other is
of_both : (dataset : List ℕ) (a b : Option Holdings) (P : Holdings → Holdings → Type 0) (Q : Holdings → Type 0) → ((h i : Holdings) → P h i → Q h) → WhereTold a b (SameBut dataset) → IfSome a (λ h. IfSome b (λ i. P h i)) → IfSome a Q
of_both dataset None b P Q to others p = tt
of_both dataset (Some h) None P Q to others p = absurd others
of_both dataset (Some h) (Some i) P Q to others p = to h i p

pub purge_ok : (dataset : List ℕ) (a m b : Option Holdings) (d k : ℕ) → m ≡ a → IfSome a (λ h. IsRuled (rules_of h.schema)) → WhereTold m b (SameBut dataset)
    → IfSome m (λ h. IfSome b (λ i. IsPurged dataset (folder_at h dataset) (folder_at i dataset) d k))
    → IfSome a (λ h. reclaimed (rules_of h.schema) (purge_told dataset (folder_at h dataset)) ≡ Some (reported (Ok (purged_line d k))))
purge_ok dataset a m b d k same ruled others p =
    some_both a _ _ _ (λ h r e. ruled_by (rules_of h.schema) (purge_told dataset (folder_at h dataset)) (Ok (purged_line d k)) r e) ruled
    (subst (λ o. IfSome o (λ h. purge_told dataset (folder_at h dataset) ≡ Some (Ok (purged_line d k)))) same
    (of_both dataset m b _ _ (λ h i x. purged_tells dataset (folder_at h dataset) (folder_at i dataset) d k x) others p))

pub wipe_ok : (dataset : List ℕ) (a m b : Option Holdings) (n : ℕ) → m ≡ a → IfSome a (λ h. IsRuled (rules_of h.schema)) → WhereTold m b (SameBut dataset)
    → IfSome m (λ h. IfSome b (λ i. HasWiped dataset (folder_at h dataset) (folder_at i dataset) n))
    → IfSome a (λ h. reclaimed (rules_of h.schema) (wipe_told dataset (folder_at h dataset)) ≡ Some (reported (Ok (wiped_line n))))
wipe_ok dataset a m b n same ruled others p =
    some_both a _ _ _ (λ h r e. ruled_by (rules_of h.schema) (wipe_told dataset (folder_at h dataset)) (Ok (wiped_line n)) r e) ruled
    (subst (λ o. IfSome o (λ h. wipe_told dataset (folder_at h dataset) ≡ Some (Ok (wiped_line n)))) same
    (of_both dataset m b _ _ (λ h i x. wiped_tells dataset (folder_at h dataset) (folder_at i dataset) n x) others p))

-- this was done to the dataset
pub done_told : (dataset : List ℕ) (R : Contents → Contents → Type 0) (a m b : Option Holdings) → m ≡ a → WhereTold m b (SameBut dataset) → IfSome m (λ h. IfSome b (λ i. R (folder_at h dataset) (folder_at i dataset))) → WhereTold a b (InDataset dataset R)
done_told dataset R a m b same others r = subst (λ o. WhereTold o b (InDataset dataset R)) same (stands_told dataset R m b others r)

-- ---- where there is no table

none_told : (t : Option File) (dataset : List ℕ) (text : List Entry → Result (List ℕ) Cause) → false ≡ is_some t → of_table (option_map (λ (f : File). listed dataset f.reads) t) text ≡ Some (Err causes.NoDataset)
none_told None dataset text e = refl
none_told (Some f) dataset text e = absurd (true≢false (sym e))

pub none_says : (dataset : List ℕ) (text : Contents → List Entry → Result (List ℕ) Cause) (a m : Option Holdings) → m ≡ a → IfSome a (λ h. IsRuled (rules_of h.schema)) → IfSome m (λ h. false ≡ is_some (folder_at h dataset).table)
    → IfSome a (λ h. reclaimed (rules_of h.schema) (of_table (option_map (λ (f : File). listed dataset f.reads) (folder_at h dataset).table) (text (folder_at h dataset))) ≡ Some (refused causes.NoDataset))
none_says dataset text a m same ruled none =
    some_both a _ _ _ (λ h r e. ruled_by (rules_of h.schema) _ (Err causes.NoDataset) r (none_told (folder_at h dataset).table dataset (text (folder_at h dataset)) e)) ruled
    (subst (λ o. IfSome o (λ h. false ≡ is_some (folder_at h dataset).table)) same none)

-- ---- where the call is refused

table_is : (t : Option File) (P : File → Type 0) → WithTable t P → (f : File) × (t ≡ Some f) × P f
table_is None P w = absurd w
table_is (Some f) P w = (f, refl, w)

bad_stands : (dataset : List ℕ) (v : Contents) (fault : NotATable) → WithTable v.table (λ f. listed dataset f.reads ≡ Err fault) → Stands dataset v (BadTable fault)
bad_stands dataset v fault w = table_is v.table (λ f. listed dataset f.reads ≡ Err fault) w

first_stands : (v : Contents) (es : List Entry) (d : Damage) → IsFirst d (damages v.files es) → StandsIn v es d
first_stands v es d (rest, is) = inl (subst (λ ds. Contains ds d) (sym is) (0, omega arith, refl))

pub damaged_stands : (dataset : List ℕ) (v : Contents) (d : Damage) → IsDamagedIn dataset d v → Stands dataset v (BadFile d)
damaged_stands dataset v d w =
    let x = table_is v.table (λ f. (es : List Entry) × (listed dataset f.reads ≡ Ok es) × (IsFirst d (damages v.files es) ⊎ ((e : Entry) × Contains es e × IsBadIndex e (v.files (index_file e)) d))) w in
    (x.0, x.2.0, x.1, x.2.1, elim x.2.2 as (λ _. StandsIn v x.2.0 d) [ inl first ↦ first_stands v x.2.0 d first | inr bad ↦ inr (bad.0, bad.1, inl bad.2) ])

pub absent_stands : (dataset : List ℕ) (v : Contents) (d : Damage) → WithTable v.table (λ f. (es : List Entry) × (listed dataset f.reads ≡ Ok es) × IsFirst d (damages v.files es)) → Stands dataset v (BadFile d)
absent_stands dataset v d w =
    let x = table_is v.table (λ f. (es : List Entry) × (listed dataset f.reads ≡ Ok es) × IsFirst d (damages v.files es)) w in
    (x.0, x.2.0, x.1, x.2.1, first_stands v x.2.0 d x.2.2)

over_told : (dataset : List ℕ) (v : Contents) (entry writer : ℕ) → IsOver dataset entry writer v → purge_told dataset v ≡ Some (Err (causes.WriterTooGreat entry writer))
over_told dataset v entry writer w =
    let x = table_is v.table (λ f. (es : List Entry) × (listed dataset f.reads ≡ Ok es) × (first_over 0 0 (masks_of v.files es) es ≡ Some (entry, writer))) w in
    lists_at dataset v x.0 x.2.0 (purge_text v.files) x.1 x.2.1
    ∙ ap (λ o. Some (unless_over o (purged_line (length (masked (masks_of v.files x.2.0) x.2.0)) (length (unmasked (masks_of v.files x.2.0) x.2.0))))) x.2.2

abbrev BadAt : List ℕ → NotATable → Holdings → Type 0
BadAt dataset bad h = WithTable (folder_at h dataset).table (λ f. listed dataset f.reads ≡ Err bad)

abbrev AbsentAt : List ℕ → Damage → Holdings → Type 0
AbsentAt dataset d h = WithTable (folder_at h dataset).table (λ f. (es : List Entry) × (listed dataset f.reads ≡ Ok es) × IsFirst d (damages (folder_at h dataset).files es))

module _ {F : Type 0} (dataset : List ℕ) where
  -- what a fault says and leaves
  fault_says : (fault : PurgeFault F) (h : Holdings) (r : Result (List Rule) Cause) (told : Option (Result (List ℕ) Cause)) → IsRuled r
      → OnNotATable fault (λ bad. Stands dataset (folder_at h dataset) (BadTable bad)) → OnDamaged fault (λ d. Stands dataset (folder_at h dataset) (BadFile d)) → OnWriters fault (λ entry writer. told ≡ Some (Err (causes.WriterTooGreat entry writer)))
      → Says (of_fault fault) dataset h (reclaimed r told)
  fault_says (faults.Disk f) h r told ruled bad damaged writers = tt
  fault_says (faults.NotATable at want found) h r told ruled bad damaged writers = bad
  fault_says (faults.Damaged d) h r told ruled bad damaged writers = damaged
  fault_says (faults.Writers entry writer) h r told ruled bad damaged writers = ruled_by r told (Err (causes.WriterTooGreat entry writer)) ruled writers
  fault_says faults.NoMemory h r told ruled bad damaged writers = tt

  fault_leaves : (fault : PurgeFault F) (P : Contents → Contents → Type 0) (v w : Contents) → P v w → LeavesHalted (of_fault fault) P v w
  fault_leaves (faults.Disk f) P v w p = p
  fault_leaves (faults.NotATable at want found) P v w p = p
  fault_leaves (faults.Damaged d) P v w p = p
  fault_leaves (faults.Writers entry writer) P v w p = p
  fault_leaves faults.NoMemory P v w p = p

  -- a clause on a fault, at a store that is told
  bad_at : (fault : PurgeFault F) (P : NotATable → Holdings → Type 0) (Q : NotATable → Type 0) (h : Holdings) → ((bad : NotATable) → P bad h → Q bad) → OnNotATable fault (λ bad. IfSome (Some h) (P bad)) → OnNotATable fault Q
  bad_at (faults.Disk f) P Q h to on = tt
  bad_at (faults.NotATable at want found) P Q h to on = to _ on
  bad_at (faults.Damaged d) P Q h to on = tt
  bad_at (faults.Writers entry writer) P Q h to on = tt
  bad_at faults.NoMemory P Q h to on = tt

  damaged_at : (fault : PurgeFault F) (P : Damage → Holdings → Type 0) (Q : Damage → Type 0) (h : Holdings) → ((d : Damage) → P d h → Q d) → OnDamaged fault (λ d. IfSome (Some h) (P d)) → OnDamaged fault Q
  damaged_at (faults.Disk f) P Q h to on = tt
  damaged_at (faults.NotATable at want found) P Q h to on = tt
  damaged_at (faults.Damaged d) P Q h to on = to d on
  damaged_at (faults.Writers entry writer) P Q h to on = tt
  damaged_at faults.NoMemory P Q h to on = tt

  writers_at : (fault : PurgeFault F) (P : ℕ → ℕ → Holdings → Type 0) (Q : ℕ → ℕ → Type 0) (h : Holdings) → ((entry writer : ℕ) → P entry writer h → Q entry writer) → OnWriters fault (λ entry writer. IfSome (Some h) (P entry writer)) → OnWriters fault Q
  writers_at (faults.Disk f) P Q h to on = tt
  writers_at (faults.NotATable at want found) P Q h to on = tt
  writers_at (faults.Damaged d) P Q h to on = tt
  writers_at (faults.Writers entry writer) P Q h to on = to entry writer on
  writers_at faults.NoMemory P Q h to on = tt

  never_writers : (fault : PurgeFault F) (Q : ℕ → ℕ → Type 0) → NoWriters fault → OnWriters fault Q
  never_writers (faults.Disk f) Q on = tt
  never_writers (faults.NotATable at want found) Q on = tt
  never_writers (faults.Damaged d) Q on = tt
  never_writers (faults.Writers entry writer) Q on = absurd on
  never_writers faults.NoMemory Q on = tt

  pub purge_says : (a m : Option Holdings) (fault : PurgeFault F) (halt : Halt F) → m ≡ a → IfSome a (λ h. IsRuled (rules_of h.schema)) → halt ≡ of_fault fault
      → OnNotATable fault (λ bad. IfSome m (BadAt dataset bad)) → OnDamaged fault (λ d. IfSome m (λ h. IsDamagedIn dataset d (folder_at h dataset))) → OnWriters fault (λ entry writer. IfSome m (λ h. IsOver dataset entry writer (folder_at h dataset)))
      → IfSome a (λ h. Says halt dataset h (reclaimed (rules_of h.schema) (purge_told dataset (folder_at h dataset))))
  purge_says a m fault halt same ruled is bad damaged writers = go a same ruled
    where
      go : (o : Option Holdings) → m ≡ o → IfSome o (λ h. IsRuled (rules_of h.schema)) → IfSome o (λ h. Says halt dataset h (reclaimed (rules_of h.schema) (purge_told dataset (folder_at h dataset))))
      go None e r = tt
      go (Some h) e r = subst (λ x. Says x dataset h (reclaimed (rules_of h.schema) (purge_told dataset (folder_at h dataset)))) (sym is) (fault_says fault h (rules_of h.schema) (purge_told dataset (folder_at h dataset)) r
          (bad_at fault (BadAt dataset) _ h (λ b x. bad_stands dataset (folder_at h dataset) b x) (subst (λ o. OnNotATable fault (λ b. IfSome o (BadAt dataset b))) e bad))
          (damaged_at fault (λ d h. IsDamagedIn dataset d (folder_at h dataset)) _ h (λ d x. damaged_stands dataset (folder_at h dataset) d x) (subst (λ o. OnDamaged fault (λ d. IfSome o (λ h. IsDamagedIn dataset d (folder_at h dataset)))) e damaged))
          (writers_at fault (λ entry writer h. IsOver dataset entry writer (folder_at h dataset)) _ h (λ entry writer x. over_told dataset (folder_at h dataset) entry writer x) (subst (λ o. OnWriters fault (λ entry writer. IfSome o (λ h. IsOver dataset entry writer (folder_at h dataset)))) e writers)))

  pub wipe_says : (a m : Option Holdings) (fault : PurgeFault F) (halt : Halt F) → m ≡ a → IfSome a (λ h. IsRuled (rules_of h.schema)) → halt ≡ of_fault fault
      → OnNotATable fault (λ bad. IfSome m (BadAt dataset bad)) → OnDamaged fault (λ d. IfSome m (AbsentAt dataset d)) → NoWriters fault
      → IfSome a (λ h. Says halt dataset h (reclaimed (rules_of h.schema) (wipe_told dataset (folder_at h dataset))))
  wipe_says a m fault halt same ruled is bad damaged never = go a same ruled
    where
      go : (o : Option Holdings) → m ≡ o → IfSome o (λ h. IsRuled (rules_of h.schema)) → IfSome o (λ h. Says halt dataset h (reclaimed (rules_of h.schema) (wipe_told dataset (folder_at h dataset))))
      go None e r = tt
      go (Some h) e r = subst (λ x. Says x dataset h (reclaimed (rules_of h.schema) (wipe_told dataset (folder_at h dataset)))) (sym is) (fault_says fault h (rules_of h.schema) (wipe_told dataset (folder_at h dataset)) r
          (bad_at fault (BadAt dataset) _ h (λ b x. bad_stands dataset (folder_at h dataset) b x) (subst (λ o. OnNotATable fault (λ b. IfSome o (BadAt dataset b))) e bad))
          (damaged_at fault (AbsentAt dataset) _ h (λ d x. absent_stands dataset (folder_at h dataset) d x) (subst (λ o. OnDamaged fault (λ d. IfSome o (AbsentAt dataset d))) e damaged))
          (never_writers fault _ never))

  pub halt_leaves : (P : Contents → Contents → Type 0) (a m b : Option Holdings) (fault : PurgeFault F) (halt : Halt F) → m ≡ a → halt ≡ of_fault fault → WhereTold m b (SameBut dataset)
      → IfSome m (λ h. MatchOption b ⊥ (λ i. P (folder_at h dataset) (folder_at i dataset))) → WhereTold a b (InDataset dataset (LeavesHalted halt P))
  halt_leaves P a m b fault halt same is others left =
      dataset_map dataset P (LeavesHalted halt P) (λ v w p. subst (λ x. LeavesHalted x P v w) (sym is) (fault_leaves fault P v w p)) a b
      (subst (λ o. WhereTold o b (InDataset dataset P)) same (refused_told dataset P m b others left))
