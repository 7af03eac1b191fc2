-- Why a trial isn't carried through, by its cause.
use Rattle.std.proofs.Common.{false, ◌≡◌, ◌∙◌, ◌≤◌, ◌+◌, ℕ, List, ◌++◌, Option, Some, None, refl, sym, ap, subst, inl, length, map, string_bytes}
use Rattle.std.specs.Prelude.{IfSome, Ok, Err, Contains, codes}
use Rattle.fd_bytes.specs.Causes.{Rose}
use Rattle.fd_disk.specs.Folders.{Holdings, WhereTold, folder_at}
use Rattle.fd_listing.specs.Lines.{line}
use Rattle.fd_sections.specs.declared.bad.Bad.{Bad}
use Rattle.fd_sections.specs.declared.bad.Bad.TheVariants as bads
use Rattle.fd_sections.specs.Stream.{Bad_end}
use Rattle.fd_schema.specs.declared.place.Place.{Place}
use Rattle.fd_schema.specs.Reading.{seen_place}
use Rattle.fd_schema.specs.Rules.{Rule}
use Rattle.fd_split.specs.declared.refusal.Refusal.{Refusal}
use Rattle.fd_stored.specs.declared.status.Status.{Status}
use Rattle.fd_stored.specs.declared.status.Status.TheVariants.{Damaged, Refused}
use Rattle.fd_stored.specs.Archiving.{Stored, Taken, datasets_in, pairs_for, taken}
use Rattle.fd_stored.specs.Causes as causes
use Rattle.fd_stored.specs.Causes.{Cause, telling}
use Rattle.fd_split.specs.Inputs as inputs
use Rattle.fd_outcome.specs.Ends.{IsPlanted}
use Rattle.fd_outcome.specs.Objects.{Object}
use Rattle.fd_outcome.specs.Outcome.{generated_messages}
use Rattle.fd_stored.specs.Store.{Grows, GrowsBy, IsFull, Stands, Stays}
use Rattle.fd_outcome.specs.Told.{ToldOrNoMemory}
use Rattle.fd_outcome.specs.Trying.{trial_given, trial_rules}
use Rattle.fd_retrieve.specs.Counting.{IsBrokenAmong, IsOfKeys}
use Rattle.fd_telling.specs.declared.stop.Stop.{Stop}
use Rattle.fd_telling.specs.declared.stop.Stop.TheVariants as stops
use Rattle.fd_telling.specs.Stops.{OnDisk, OnTooMany, ToldStop, seen_broken}
use Rattle.fd_retrieve.specs.Tables as tables
use Rattle.fd_bulk.specs.Archived as bulk
use Rattle.fd_bulk.specs.Archived.{IsFront}
use Rattle.fd_split.specs.Fields.{refusal_at}
use Rattle.fd_bulk.specs.declared.bulk.Bulk.{Bulk}
use Rattle.fd_bulk.specs.declared.bulk.BulkFault.{BulkFault}
use Rattle.fd_bulk.specs.declared.bulk.BulkFault.TheVariants as faults
use Rattle.fd_archive.specs.Kept.{InputKept, RefusedKept, WholeKept}
use Rattle.fd_archive.proofs.Growing.{grows_front, grows_of}
use Rattle.fd_trial.specs.Asking.{Begins}
use Rattle.fd_trial.specs.Placed.{ArePlaced}
use Rattle.fd_trial.specs.Telling.{ToldUnstored}
use Rattle.fd_trial.proofs.Stepping.{asked, broken_told, grown, through, where_told}
use Rattle.fd_trial.proofs.TrialExits.{Out, Since, broken_later_ran, broken_ran, cause_ran, disk_ran, full_ran, starved_ran}

module _ (root : List ℕ) (count workers : ℕ) (start mid now : Option Holdings) (sm sn : ℕ) (left : Option (List ℕ)) (l : ℕ) (a : Option (List ℕ)) (k : ℕ) (report : Object (List ℕ)) (result : Status) (rules : List Rule) where
  abbrev Goal : Type 0
  Goal = Out root count workers start now sm sn left l a k report result

  abbrev T : Taken
  T = taken rules trial_given (generated_messages count)

  -- ---- when keys are asked for

  pub asked_stop : {F : Type 0} → (few : count ≤ 100000) (places : List Place) → ArePlaced rules trial_given 0 (map seen_place places) → length (map seen_place places) ≡ count → Begins workers rules count start mid → WhereTold mid now Stays
      → (stop : Stop F) → ToldStop stop result report.before report.now report.faults_before report.faults_now → OnTooMany stop ⊥ → IsOfKeys stop → IfSome mid (λ h. IsBrokenAmong stop h (tables.datasets_in places)) → OnDisk stop (Rose sm sn) → Goal
  asked_stop few places placed long begins stays (stops.Disk f) told never of broken rose = disk_ran root count workers start now sm sn left l a k report result rules (grown count workers rules start now (asked count workers rules start mid now begins stays)) rose told
  asked_stop few places placed long begins stays stops.TooMany told never of broken rose = absurd never
  asked_stop few places placed long begins stays stops.NoMemory told never of broken rose = starved_ran root count workers start now sm sn left l a k report result rules (grown count workers rules start now (asked count workers rules start mid now begins stays)) told
  asked_stop few places placed long begins stays (stops.Broken dataset b) told never of broken rose =
      broken_later_ran root count workers start now sm sn left l a k report result rules (string_bytes dataset) (seen_broken b)
      (broken_told count workers rules (map seen_place places) few placed long begins.none places refl (string_bytes dataset) (seen_broken b) start mid now begins stays broken) told
  asked_stop few places placed long begins stays stops.Input told never of broken rose = absurd of
  asked_stop few places placed long begins stays stops.Missing told never of broken rose = absurd of
  asked_stop few places placed long begins stays (stops.Schema number kind) told never of broken rose = absurd of
  asked_stop few places placed long begins stays (stops.Request at kind) told never of broken rose = absurd of
  asked_stop few places placed long begins stays (stops.NoRule text) told never of broken rose = absurd of
  asked_stop few places placed long begins stays (stops.NoLayer layer text) told never of broken rose = absurd of

  -- ---- when messages are stored

  abbrev Planted : Holdings → Holdings → Type 0
  Planted h m = IsPlanted h m × (trial_rules h.schema ≡ Ok rules)

  since : (P : Holdings → Holdings → Type 0) → WhereTold start mid Planted → WhereTold mid now P → WhereTold start now (Since rules P)
  since P planted w = through start mid now _ _ _ (λ h m i x y. record { middle = m; planted = x.0; ruled = x.1; since = y }) planted w

  front_grown : (all : List Stored) → IsFront all T → (m j : Holdings) → Grows workers (pairs_for all) m j → Grows workers (pairs_for T.stored) m j
  front_grown all front m j g = subst (λ ss. Grows workers (pairs_for ss) m j) (sym front.1) (grows_front workers all front.0 m j g)

  front_told : (all : List Stored) → IsFront all T → WhereTold mid now (Grows workers (pairs_for all)) → WhereTold mid now (Grows workers (pairs_for T.stored))
  front_told all front w = where_told mid now _ _ (front_grown all front) w

  by_told : (all : List Stored) → T.stored ≡ all → WhereTold mid now (GrowsBy workers (pairs_for all)) → WhereTold mid now (GrowsBy workers (pairs_for T.stored))
  by_told all same w = subst (λ ss. WhereTold mid now (GrowsBy workers (pairs_for ss))) (sym same) w

  -- octets that are no message
  bad_told : (n : ℕ) (bad : Bad) → inputs.refused false n (Bad_end bad) ≡ Some (refusal_at (n + 1) bad)
  bad_told n (bads.Edition edition) = refl
  bad_told n (bads.Length said found) = refl
  bad_told n (bads.Section want found) = refl
  bad_told n (bads.Short section len) = refl
  bad_told n (bads.NoEnd at) = refl
  bad_told n (bads.MultiField section) = refl
  bad_told n (bads.TooLong len) = refl
  bad_told n bads.NoStart = refl
  bad_told n (bads.Over section said left) = refl

  some_refusal : (x y : Refusal) → (let o : Option Refusal = Some x in o ≡ Some y) → x ≡ y
  some_refusal x y e = cc

  abbrev Told_ : Status → List ℕ → Type 0
  Told_ s text = ToldOrNoMemory s text result report.before report.now report.faults_before report.faults_now

  refused_ran : {X : Type 0} (fault : BulkFault X) (after : Option (List ℕ)) → WhereTold start mid Planted → (w : RefusedKept workers rules trial_given (Some (generated_messages count)) after mid now fault)
      → ((cause : Cause) → bulk.IsCause fault cause → Told_ (telling cause).status (telling cause).line) → Goal
  refused_ran fault after planted w told =
      let cause = w.refused.1.0 in
      cause_ran root count workers start now sm sn left l a k report result rules cause w.refused.1.1 (since _ planted (by_told w.all w.refused.0 w.grows)) (told cause w.refused.1.2)

  as_cause : (cause other : Cause) → cause ≡ other → Told_ (telling other).status (telling other).line → Told_ (telling cause).status (telling cause).line
  as_cause cause other is told = subst (λ c. Told_ (telling c).status (telling c).line) (sym is) told

  with_first : (P : Holdings → Type 0) (Q : Holdings → Holdings → Type 0) (s n : Option Holdings) → IfSome s P → WhereTold s n Q → WhereTold s n (λ m j. Q m j × P m)
  with_first P Q None None p q = tt
  with_first P Q None (Some j) p q = absurd q
  with_first P Q (Some m) None p q = absurd q
  with_first P Q (Some m) (Some j) p q = (q, p)

  with_second : (P : Holdings → Type 0) (Q : Holdings → Holdings → Type 0) (s n : Option Holdings) → IfSome n P → WhereTold s n Q → WhereTold s n (λ m j. Q m j × P j)
  with_second P Q None None p q = tt
  with_second P Q None (Some j) p q = absurd q
  with_second P Q (Some m) None p q = absurd q
  with_second P Q (Some m) (Some j) p q = (q, p)

  damaged_ran : (name : List ℕ) (broken : causes.Broken) → WhereTold start mid Planted → WhereTold mid now (Grows workers (pairs_for T.stored)) → IfSome mid (λ s. Stands name (folder_at s name) broken) → Contains (datasets_in T.stored) name
      → Told_ Damaged (causes.damaged_line name broken) → Goal
  damaged_ran name broken planted grows stands among told =
      broken_ran root count workers start now sm sn left l a k report result rules name broken
      (since _ planted (with_first (λ s. Stands name (folder_at s name) broken) (Grows workers (pairs_for T.stored)) mid now stands grows)) among told

  -- why not all messages are stored
  pub kept_ran : {X : Type 0} (fault : BulkFault X) (after : Option (List ℕ)) → WhereTold start mid Planted → InputKept workers rules trial_given (Some (generated_messages count)) after mid now (Err fault)
      → ToldUnstored fault result report.before report.now report.faults_before report.faults_now → bulk.OnDisk (Err fault) (Rose sm sn) → Goal
  kept_ran (faults.Input f) after planted w told rose =
      starved_ran root count workers start now sm sn left l a k report result rules
      (since _ planted (where_told mid now _ _ (λ m j g. front_grown w.all w.read.front m j (grows_of workers w.all m j g)) w.grows)) told
  kept_ran (faults.Message at) after planted w told rose =
      let same : refusal_at (w.messages + 1) at.bad ≡ told.0 = some_refusal _ told.0 (sym (bad_told w.messages at.bad) ∙ told.1 false w.messages w.numbered) in
      refused_ran (faults.Message at) after planted w (λ cause is. as_cause cause (causes.InStream told.0) (is ∙ ap (λ (n : ℕ). causes.InStream (refusal_at n at.bad)) w.numbered ∙ ap causes.InStream same) told.2)
  kept_ran (faults.NoMap number field) after planted w told rose = refused_ran (faults.NoMap number field) after planted w (λ cause is. as_cause cause _ is told)
  kept_ran (faults.Cut t) after planted w told rose = refused_ran (faults.Cut t) after planted w (λ cause is. as_cause cause _ is told)
  kept_ran (faults.Key number fault) after planted w told rose = refused_ran (faults.Key number fault) after planted w (λ cause is. as_cause cause _ is told)
  kept_ran (faults.NoRule number text) after planted w told rose =
      refused_ran (faults.NoRule number text) after planted w (λ cause is. as_cause cause (causes.NoRule is.0) is.1 (subst (λ (t : List ℕ). Told_ Refused (line (codes "refused NoRule " ++ t))) is.2 told))
  kept_ran faults.Disk after planted w told rose = disk_ran root count workers start now sm sn left l a k report result rules (since _ planted (front_told w.all w.front w.grows)) rose told
  kept_ran (faults.NotATable dataset at want found) after planted w told rose =
      damaged_ran (string_bytes dataset) (causes.BadTable (record { at = at; want = want; found = found })) planted (front_told w.all w.front w.grows) w.stop.0 w.stop.1 told
  kept_ran (faults.Damaged dataset damage) after planted w told rose = damaged_ran (string_bytes dataset) (causes.BadFile damage) planted (front_told w.all w.front w.grows) w.stop.0 w.stop.1 told
  kept_ran (faults.TableFull n) after planted w told rose =
      full_ran root count workers start now sm sn left l a k report result rules w.stop.1.0
      (since _ planted (with_second (λ t. IsFull t w.stop.1.0) (Grows workers (pairs_for T.stored)) mid now w.stop.1.1 (front_told w.all w.front w.grows))) w.stop.1.2 told
  kept_ran (faults.TooMany n) after planted w told rose = refused_ran (faults.TooMany n) after planted w (λ cause is. as_cause cause causes.TooManyDatasets is.0 (inl told))
  kept_ran faults.InputLimit after planted w told rose = refused_ran faults.InputLimit after planted w (λ cause is. as_cause cause _ is (inl told))
  kept_ran faults.NoMemory after planted w told rose = starved_ran root count workers start now sm sn left l a k report result rules (since _ planted (front_told w.all w.front w.grows)) told

-- all messages are stored
pub kept_whole : (count workers : ℕ) (rules : List Rule) (start mid now : Option Holdings) (b : Bulk) (after : Option (List ℕ)) → WhereTold start mid (λ h m. IsPlanted h m × (trial_rules h.schema ≡ Ok rules)) → WholeKept workers rules trial_given (Some (generated_messages count)) after mid now b → Begins workers rules count start now
kept_whole count workers rules start mid now b after planted w = record {
  none = w.taken_is.refusal;
  tried = through start mid now _ _ _ (λ h m i x y. record { middle = m; planted = x.0; ruled = x.1; grows = y }) planted
      (subst (λ ss. WhereTold mid now (GrowsBy workers (pairs_for ss))) (sym w.taken_is.stored) w.grows);
}

-- a call of the store failed, counted from before
pub on_disk : {X : Type 0} (fault : BulkFault X) (P Q : Type 0) → (P → Q) → bulk.OnDisk (Err fault) P → bulk.OnDisk (Err fault) Q
on_disk (faults.Input f) P Q to p = tt
on_disk (faults.Message at) P Q to p = tt
on_disk (faults.NoMap number field) P Q to p = tt
on_disk (faults.Cut t) P Q to p = tt
on_disk (faults.Key number fault) P Q to p = tt
on_disk (faults.NoRule number text) P Q to p = tt
on_disk faults.Disk P Q to p = to p
on_disk (faults.NotATable dataset at want found) P Q to p = tt
on_disk (faults.Damaged dataset damage) P Q to p = tt
on_disk (faults.TableFull n) P Q to p = tt
on_disk (faults.TooMany n) P Q to p = tt
on_disk faults.InputLimit P Q to p = tt
on_disk faults.NoMemory P Q to p = tt
