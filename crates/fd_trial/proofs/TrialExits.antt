-- The exits of `trial`.
use Rattle.std.proofs.Common.{◌≡◌, ◌∙◌, ℕ, Bool, true, false, List, [], ◌∷◌, Option, Some, None, refl, sym, ap, subst, inl, inr}
use Rattle.std.specs.Prelude.{◌⊎◌, Result, Ok, Err, Contains, unwrap_or}
use Rattle.fd_bytes.specs.Causes.{Rose}
use Rattle.fd_io.specs.Streams.{Takes}
use Rattle.fd_disk.specs.Folders.{Holdings, WhereTold, folder_at}
use Rattle.fd_schema.specs.Grammar as schemas
use Rattle.fd_schema.specs.Reading.{IsFirst}
use Rattle.fd_schema.specs.Rules.{Rule}
use Rattle.fd_schema.specs.declared.fault.SchemaKind.{SchemaKind}
use Rattle.fd_words.specs.declared.command.Command.{Command}
use Rattle.fd_words.specs.declared.command.Command.TheVariants.{Trial}
use Rattle.fd_stored.specs.declared.status.Status.{Status}
use Rattle.fd_stored.specs.declared.status.Status.TheVariants.{Done, Refused, InputFault, OutputFault, DiskFault, NoMemory, Damaged, Limit}
use Rattle.fd_stored.specs.Archiving.{Taken, datasets_in, pairs_for, taken}
use Rattle.fd_outcome.specs.Asking.{stored_rules, ◌then◌}
use Rattle.fd_stored.specs.Causes as causes
use Rattle.fd_stored.specs.Causes.{Cause, damaged_line, table_full, telling}
use Rattle.fd_outcome.specs.Ends.{AmongTaken, Calm, Ends, EndsUnplanted, IsPlanted, LeavesStored, LeavesTried, disk_failed, no_memory, troubles}
use Rattle.fd_outcome.specs.Objects.{Failures, Object, failures, object}
use Rattle.fd_outcome.specs.Outcome.{Outcome, are_told, generated_messages, nothing_early, trial_ends, tried}
use Rattle.fd_outcome.specs.Ran.{Ran}
use Rattle.fd_stored.specs.Store.{Grows, GrowsBy, IsFull, Stands, Stays, StayFolders, table_at}
use Rattle.fd_outcome.specs.Told.{Told, ToldOrNoMemory}
use Rattle.fd_outcome.specs.Trying.{if_trial, tally_of, trial_answers, trial_given, trial_line, trial_rules, trial_schema}
use Rattle.fd_outcome.specs.Worked as worked
use Rattle.fd_outcome.proofs.AnyCommand as commands
use Rattle.fd_outcome.proofs.Endings.{CanStop, CanTell, ends_early, ends_told, reached_nothing, takes_nothing}
use Rattle.fd_outcome.proofs.Exits.{apart, by_cause, cause_told, is_disk_fault, is_input_fault, is_output_fault, is_words}
use Rattle.fd_outcome.proofs.Leaving.{grows_none}
use Rattle.fd_outcome.proofs.Rows as rows
use Rattle.fd_outcome.proofs.Starved.{within}
use Rattle.fd_telling.specs.Stops.{ToldSome}
use Rattle.fd_retrieve.proofs.Staying.{same_at, stands_before}
use Rattle.fd_trial.specs.Ruling.{IsLeft}
use Rattle.fd_trial.proofs.Finding.{broken_before}

-- ---- the rules

pub never_unruled : (c : Cause) → trial_rules None ≡ Err c → ⊥
never_unruled c e = go worked.rules (sym rows.every.planted_rules ∙ e) rows.every.taken_one
  where
    go : (r : Result (List Rule) Cause) → r ≡ Err c → (r then λ rs. Ok (taken rs worked.given worked.field)) ≡ Ok (record { stored = record { dataset = worked.dataset; pair = worked.pair worked.field } ∷ []; refusal = None; junk = 0; next = 2 }) → ⊥
    go (Ok rs) is h = absurd cc
    go (Err d) is h = absurd cc

-- where there are no rules, nothing was planted
stays_unruled : (h i : Holdings) (c : Cause) → IsLeft h i → trial_rules h.schema ≡ Err c → Stays h i
stays_unruled h i c (inl s) e = s
stays_unruled h i c (inr p) e = absurd (never_unruled c (ap trial_rules (sym p.none) ∙ e))

pub folders_stay : (h m : Holdings) → IsPlanted h m → StayFolders h m
folders_stay h m (inl s) = s.1.folders
folders_stay h m (inr p) = p.folders

-- there was a schema, or it was planted, with these rules, and this has become of the store since
pub record Since (rules : List Rule) (P : Holdings → Holdings → Type 0) (h i : Holdings) : Type 0 where
  pub middle : Holdings
  pub planted : IsPlanted h middle
  pub ruled : trial_rules h.schema ≡ Ok rules
  pub since : P middle i

module _ (root : List ℕ) (count workers : ℕ) (start now : Option Holdings) (sm sn : ℕ) (left : Option (List ℕ)) (l : ℕ) (a : Option (List ℕ)) (k : ℕ) (report : Object (List ℕ)) (result : Status) where
  abbrev C : Command
  C = Trial root count workers

  abbrev pub Out : Type 0
  Out = Ran C result (object start now sm sn) (object left left l l) (object a a k k) report

  abbrev Fs : Failures
  Fs = failures (object start now sm sn) (object left left l l) (object a a k k) report

  abbrev quiet : Type 0
  quiet = ¬ (Rose sm sn)

  abbrev full : Type 0
  full = Takes report.before report.now table_full

  abbrev ToldAs : Status → List ℕ → Type 0
  ToldAs s text = Told s text result report.before report.now report.faults_before report.faults_now

  abbrev Leaves : Status → Holdings → Holdings → Type 0
  Leaves s h i = LeavesTried s quiet full workers (trial_rules h.schema) count h i

  abbrev LeavesIt : Status → Type 0
  LeavesIt s = WhereTold start now (Leaves s)

  abbrev EndsAs : Holdings → Holdings → List (List ℕ) → Type 0
  EndsAs h i names = Ends Fs result (tried h count (trial_rules h.schema)) nothing_early (troubles C Fs h i names []) a a report.before report.now

  abbrev Where : (Holdings → Holdings → Type 0) → Type 0
  Where P = (h i : Holdings) → start ≡ Some h → now ≡ Some i → P h i

  -- a status with its line ends the run so
  told_of : (s : Status) (text : List ℕ) → ToldAs s text → is_words s ≡ false → is_output_fault s ≡ false → is_input_fault s ≡ false → (s ≡ DiskFault → Rose sm sn)
      → (Takes report.before report.now text → Calm C s (object left left l l) (object a a k k) report) → LeavesIt result → Where (λ h i. (names : List (List ℕ)) → EndsAs h i names) → Out
  told_of s text told words output_no input_no disk calm leaves ends =
      commands.told_of C tt (object start now sm sn) (object left left l l) (object a a k k) report result s text report.before report.faults_before report.faults_now told (λ r. r)
      words output_no (λ e. absurd (apart is_input_fault s InputFault input_no refl e)) disk calm leaves (λ _. refl) (λ octets h i names seen e f an. ends h i e f names)

  -- what is left by the status that is told, or by that of a failed report
  either_leaves : (s : Status) (text : List ℕ) → ToldAs s text → (Takes report.before report.now text → LeavesIt s) → LeavesIt OutputFault → LeavesIt result
  either_leaves s text told at failed = elim told.told as (λ _. LeavesIt result) [
    | inl w ↦ subst (λ q. LeavesIt q) (sym w.status) (at w.took)
    | inr w ↦ subst (λ q. LeavesIt q) (sym w.status) failed
  ]

  -- a run that stops early
  stop_ends : (h i : Holdings) (names : List (List ℕ)) (s : Status) (text : List ℕ) → CanStop Fs (troubles C Fs h i names []) s text → ToldAs s text → EndsAs h i names
  stop_ends h i names s text can told =
      ends_early Fs a a report.before report.before report.now nothing_early (troubles C Fs h i names []) (tried h count (trial_rules h.schema)) s result text [] report.faults_before report.faults_now
      (within h names [] C) can (reached_nothing a report.before nothing_early) (λ r. r) told

  -- the line of an outcome
  line_ends : (h i : Holdings) (names : List (List ℕ)) (s : Status) (text : List ℕ) → CanTell s → tried h count (trial_rules h.schema) ≡ Some (record { output = []; report = text; status = s }) → ToldAs s text → EndsAs h i names
  line_ends h i names s text can is told =
      subst (λ o. Ends Fs result o nothing_early (troubles C Fs h i names []) a a report.before report.now) (sym is)
      (ends_told Fs a a report.before report.before report.now nothing_early (troubles C Fs h i names []) (record { output = []; report = text; status = s }) result text [] report.faults_before report.faults_now can refl (takes_nothing a) (takes_nothing report.before) (λ r. r) told)

  at_both : (P : Holdings → Holdings → Type 0) → WhereTold start now P → Where P
  at_both P w h i e f = subst (λ n. WhereTold (Some h) n P) f (subst (λ s. WhereTold s now P) e w)

  each_told : (P Q : Holdings → Holdings → Type 0) → ((h i : Holdings) → P h i → Q h i) → WhereTold start now P → WhereTold start now Q
  each_told P Q f p = go start now p
    where
      go : (s n : Option Holdings) → WhereTold s n P → WhereTold s n Q
      go None None x = tt
      go None (Some y) x = absurd x
      go (Some y) None x = absurd x
      go (Some y) (Some z) x = f y z x

  -- ---- before there are rules

  left_leaves : (s : Status) → EndsUnplanted s → ((rules : List Rule) (i : Holdings) → LeavesStored s quiet full workers rules trial_given (generated_messages count) None i i) → (h i : Holdings) → IsLeft h i → Leaves s h i
  left_leaves s u idle h i is = go (trial_rules h.schema) refl is
    where
      go : (r : Result (List Rule) Cause) → trial_rules h.schema ≡ r → IsLeft h i → LeavesTried s quiet full workers r count h i
      go (Ok rules) e (inl x) = inl (u, x)
      go (Ok rules) e (inr p) = inr (i, inr p, refl, idle rules i)
      go (Err c) e is = stays_unruled h i c is e

  failed_left : WhereTold start now IsLeft → LeavesIt OutputFault
  failed_left w = each_told IsLeft (Leaves OutputFault) (left_leaves OutputFault tt (λ rules i q. grows_none workers _ i)) w

  pub starved_early : WhereTold start now IsLeft → ToldAs NoMemory no_memory → Out
  starved_early w told =
      told_of NoMemory no_memory told refl refl refl (λ e. absurd (apart is_disk_fault NoMemory DiskFault refl refl e)) (λ _. tt)
      (either_leaves NoMemory no_memory told (λ _. each_told IsLeft (Leaves NoMemory) (left_leaves NoMemory tt (λ rules i. grows_none workers _ i)) w) (failed_left w))
      (λ h i e f names. stop_ends h i names NoMemory no_memory refl told)

  pub disk_early : WhereTold start now IsLeft → Rose sm sn → ToldAs DiskFault disk_failed → Out
  disk_early w rose told =
      told_of DiskFault disk_failed told refl refl refl (λ _. rose) (λ _. tt)
      (either_leaves DiskFault disk_failed told (λ _. each_told IsLeft (Leaves DiskFault) (left_leaves DiskFault tt (λ rules i q. grows_none workers _ i)) w) (failed_left w))
      (λ h i e f names. stop_ends h i names DiskFault disk_failed (tt, rose, refl) told)

  unruled_leaves : (s : Status) (h i : Holdings) (c : Cause) → IsLeft h i → trial_rules h.schema ≡ Err c → Leaves s h i
  unruled_leaves s h i c is e = subst (λ r. LeavesTried s quiet full workers r count h i) (sym e) (stays_unruled h i c is e)

  -- the schema prints as another text
  pub different_ran : WhereTold start now (λ h i. IsLeft h i × (trial_rules h.schema ≡ Err causes.SchemaDifferent)) → ToldAs Refused (telling causes.SchemaDifferent).line → Out
  different_ran w told =
      told_of Refused (telling causes.SchemaDifferent).line told refl refl refl (λ e. absurd (apart is_disk_fault Refused DiskFault refl refl e)) (λ _. (refl, refl))
      (each_told _ (Leaves result) (λ h i x. unruled_leaves result h i causes.SchemaDifferent x.0 x.1) w)
      (λ h i e f names. let x = at_both _ w h i e f in line_ends h i names Refused (telling causes.SchemaDifferent).line tt (ap (tried h count) x.1) told)

  abbrev Says : ℕ → SchemaKind → Holdings → Holdings → Type 0
  Says number kind h i = IsLeft h i × ((fault : schemas.Fault) × IsFirst (unwrap_or h.schema trial_schema) number kind fault)

  said : (number : ℕ) (kind : SchemaKind) (h i : Holdings) (x : Says number kind h i) → trial_rules h.schema ≡ Err (causes.InStored (unwrap_or h.schema trial_schema) x.1.0)
  said number kind h i x = ap (λ r. stored_rules (unwrap_or h.schema trial_schema) r then if_trial) x.1.1.place

  -- the stored schema is damaged, or passes a limit
  pub schema_ran : (number : ℕ) (kind : SchemaKind) → ToldSome result report.before report.now report.faults_before report.faults_now
      → ((text : List ℕ) (fault : schemas.Fault) → IsFirst text number kind fault → ToldOrNoMemory (telling (causes.InStored text fault)).status (telling (causes.InStored text fault)).line result report.before report.now report.faults_before report.faults_now)
      → WhereTold start now (Says number kind) → Out
  schema_ran number kind (s, text, which, told) told_if w =
      told_of s text told
      (chosen s which (λ s. is_words s ≡ false) refl refl refl) (chosen s which (λ s. is_output_fault s ≡ false) refl refl refl) (chosen s which (λ s. is_input_fault s ≡ false) refl refl refl)
      (chosen s which (λ s. s ≡ DiskFault → Rose sm sn) (λ e. absurd (apart is_disk_fault Damaged DiskFault refl refl e)) (λ e. absurd (apart is_disk_fault Limit DiskFault refl refl e)) (λ e. absurd (apart is_disk_fault NoMemory DiskFault refl refl e)))
      (λ _. chosen s which (λ s. Calm C s (object left left l l) (object a a k k) report) tt (inl (refl, refl)) tt)
      (each_told (Says number kind) (Leaves result) (λ h i x. unruled_leaves result h i _ x.0 (said number kind h i x)) w)
      (λ h i e f names.
      let x = at_both (Says number kind) w h i e f in
      let cause = causes.InStored (unwrap_or h.schema trial_schema) x.1.0 in
      elim (told_if (unwrap_or h.schema trial_schema) x.1.0 x.1.1) as (λ _. EndsAs h i names) [
        | inl t ↦ line_ends h i names (telling cause).status (telling cause).line (cause_told cause) (ap (tried h count) (said number kind h i x)) t
        | inr t ↦ stop_ends h i names NoMemory no_memory refl t
      ])
    where
      chosen : (s : Status) → (s ≡ Damaged) ⊎ ((s ≡ Limit) ⊎ (s ≡ NoMemory)) → (P : Status → Type 0) → P Damaged → P Limit → P NoMemory → P s
      chosen s (inl e) P d m n = subst P (sym e) d
      chosen s (inr (inl e)) P d m n = subst P (sym e) m
      chosen s (inr (inr e)) P d m n = subst P (sym e) n

  -- ---- once there are rules

  module _ (rules : List Rule) where
    abbrev T : Taken
    T = taken rules trial_given (generated_messages count)

    -- what is left of the store once there are rules
    abbrev LeavesRuled : Status → Holdings → Holdings → Type 0
    LeavesRuled s m j = (j.schema ≡ m.schema) × LeavesStored s quiet full workers rules trial_given (generated_messages count) None m j

    since_leaves : (s : Status) (h i : Holdings) → Since rules (LeavesRuled s) h i → Leaves s h i
    since_leaves s h i x = subst (λ r. LeavesTried s quiet full workers r count h i) (sym x.ruled) (inr (x.middle, x.planted, x.since.0, x.since.1))

    with_since : (P Q : Holdings → Holdings → Type 0) → ((m j : Holdings) → P m j → Q m j) → (h i : Holdings) → Since rules P h i → Since rules Q h i
    with_since P Q f h i x = record { middle = x.middle; planted = x.planted; ruled = x.ruled; since = f x.middle i x.since }

    abbrev Grown : Holdings → Holdings → Type 0
    Grown = Grows workers (pairs_for T.stored)

    abbrev GrownBy : Holdings → Holdings → Type 0
    GrownBy = GrowsBy workers (pairs_for T.stored)

    grown : (m j : Holdings) → GrownBy m j → Grown m j
    grown m j g = record { schema = g.schema; each = λ name t is. (g.each name t is).adds }

    leaves_since : (s : Status) (P : Holdings → Holdings → Type 0) → ((m j : Holdings) → P m j → LeavesRuled s m j) → WhereTold start now (Since rules P) → LeavesIt s
    leaves_since s P f w = each_told (Since rules P) (Leaves s) (λ h i x. since_leaves s h i (with_since P _ f h i x)) w

    failed_since : WhereTold start now (Since rules Grown) → LeavesIt OutputFault
    failed_since w = leaves_since OutputFault Grown (λ m j g. (g.schema, λ q. g)) w

    pub starved_ran : WhereTold start now (Since rules Grown) → ToldAs NoMemory no_memory → Out
    starved_ran w told =
        told_of NoMemory no_memory told refl refl refl (λ e. absurd (apart is_disk_fault NoMemory DiskFault refl refl e)) (λ _. tt)
        (either_leaves NoMemory no_memory told (λ _. leaves_since NoMemory Grown (λ m j g. (g.schema, g)) w) (failed_since w))
        (λ h i e f names. stop_ends h i names NoMemory no_memory refl told)

    pub disk_ran : WhereTold start now (Since rules Grown) → Rose sm sn → ToldAs DiskFault disk_failed → Out
    disk_ran w rose told =
        told_of DiskFault disk_failed told refl refl refl (λ _. rose) (λ _. tt)
        (either_leaves DiskFault disk_failed told (λ _. leaves_since DiskFault Grown (λ m j g. (g.schema, λ q. g)) w) (failed_since w))
        (λ h i e f names. stop_ends h i names DiskFault disk_failed (tt, rose, refl) told)

    opens : (h : Holdings) (name : List ℕ) → trial_rules h.schema ≡ Ok rules → Contains (datasets_in T.stored) name → AmongTaken trial_given (trial_rules h.schema) (generated_messages count) name
    opens h name ruled among = subst (λ r. AmongTaken trial_given r (generated_messages count) name) (sym ruled) among

    -- a dataset is damaged: this is broken in it when messages are stored
    pub broken_ran : (name : List ℕ) (broken : causes.Broken) → WhereTold start now (Since rules (λ m j. Grown m j × Stands name (folder_at m name) broken)) → Contains (datasets_in T.stored) name
        → ToldOrNoMemory Damaged (damaged_line name broken) result report.before report.now report.faults_before report.faults_now → Out
    broken_ran name broken w among (inr t) = starved_ran (each_told _ _ (with_since _ Grown (λ m j x. x.0)) w) t
    broken_ran name broken w among (inl t) =
        told_of Damaged (damaged_line name broken) t refl refl refl (λ e. absurd (apart is_disk_fault Damaged DiskFault refl refl e)) (λ _. tt)
        (either_leaves Damaged (damaged_line name broken) t (λ _. leaves_since Damaged _ (λ m j x. (x.0.schema, x.0)) w) (failed_since (each_told _ _ (with_since _ Grown (λ m j x. x.0)) w)))
        (λ h i e f names.
        let x = at_both _ w h i e f in
        stop_ends h i names Damaged (damaged_line name broken) (name, broken, opens h name x.ruled among, inl (stands_before name (folder_at h name) (folder_at x.middle name) broken (folders_stay h x.middle x.planted name) x.since.1), refl) t)

    -- the same, when their keys are asked for
    pub broken_later_ran : (name : List ℕ) (broken : causes.Broken) → WhereTold start now (Since rules (λ m j. GrownBy m j × (Stands name (folder_at j name) broken × Contains (datasets_in T.stored) name)))
        → ToldOrNoMemory Damaged (damaged_line name broken) result report.before report.now report.faults_before report.faults_now → Out
    broken_later_ran name broken w (inr t) = starved_ran (each_told _ _ (with_since _ Grown (λ m j x. grown m j x.0)) w) t
    broken_later_ran name broken w (inl t) =
        told_of Damaged (damaged_line name broken) t refl refl refl (λ e. absurd (apart is_disk_fault Damaged DiskFault refl refl e)) (λ _. tt)
        (either_leaves Damaged (damaged_line name broken) t (λ _. leaves_since Damaged _ (λ m j x. (x.0.schema, grown m j x.0)) w) (failed_since (each_told _ _ (with_since _ Grown (λ m j x. grown m j x.0)) w)))
        (λ h i e f names.
        let x = at_both _ w h i e f in
        stop_ends h i names Damaged (damaged_line name broken) (name, broken, opens h name x.ruled x.since.1.1, inr (damaged_there h x.middle x.planted (broken_before workers (pairs_for T.stored) x.middle i name broken x.since.0 x.since.1.0), x.since.1.0), refl) t)
      where
        damaged_there : (h m : Holdings) → IsPlanted h m → table_at m name ≡ None → table_at h name ≡ None
        damaged_there h m (inl s) e = sym (same_at h m s.1 name) ∙ e
        damaged_there h m (inr p) e = sym (same_at h (record m { schema = h.schema }) (record { schema = refl; folders = p.folders }) name) ∙ e

    -- a table is full
    pub full_ran : (name : List ℕ) → WhereTold start now (Since rules (λ m j. Grown m j × IsFull j name)) → Contains (datasets_in T.stored) name → ToldAs Limit table_full → Out
    full_ran name w among told =
        told_of Limit table_full told refl refl refl (λ e. absurd (apart is_disk_fault Limit DiskFault refl refl e)) (λ took. inr (tt, took))
        (either_leaves Limit table_full told
        (λ took. leaves_since Limit _ (λ m j x. (x.0.schema, inr (took, record { name = name; among = among; full = x.1; grows = x.0 }))) w)
        (failed_since (each_told _ _ (with_since _ Grown (λ m j x. x.0)) w)))
        (λ h i e f names. let x = at_both _ w h i e f in stop_ends h i names Limit table_full (tt, refl, (name, opens h name x.ruled among, x.since.1)) told)

    -- a message is refused
    pub cause_ran : (cause : Cause) → T.refusal ≡ Some cause → WhereTold start now (Since rules GrownBy) → ToldOrNoMemory (telling cause).status (telling cause).line result report.before report.now report.faults_before report.faults_now → Out
    cause_ran cause is w (inr t) = starved_ran (each_told _ _ (with_since GrownBy Grown grown) w) t
    cause_ran cause is w (inl t) =
        told_of (telling cause).status (telling cause).line t (by_cause (λ s. is_words s ≡ false) refl refl refl cause) (by_cause (λ s. is_output_fault s ≡ false) refl refl refl cause) (by_cause (λ s. is_input_fault s ≡ false) refl refl refl cause)
        (by_cause (λ s. s ≡ DiskFault → Rose sm sn) (λ e. absurd (apart is_disk_fault Refused DiskFault refl refl e)) (λ e. absurd (apart is_disk_fault Damaged DiskFault refl refl e)) (λ e. absurd (apart is_disk_fault Limit DiskFault refl refl e)) cause)
        (λ _. by_cause (λ s. Calm C s (object left left l l) (object a a k k) report) (refl, refl) tt (inl (refl, refl)) cause)
        (either_leaves (telling cause).status (telling cause).line t
        (λ _. by_cause (λ s. LeavesIt s) (leaves_since Refused GrownBy (λ m j g. (g.schema, g)) w) (leaves_since Damaged GrownBy (λ m j g. (g.schema, grown m j g)) w) (leaves_since Limit GrownBy (λ m j g. (g.schema, inl g)) w) cause)
        (failed_since (each_told _ _ (with_since GrownBy Grown grown) w)))
        (λ h i e f names. let x = at_both _ w h i e f in
        line_ends h i names (telling cause).status (telling cause).line (cause_told cause) (ap (tried h count) x.ruled ∙ ap (trial_ends h count T) is) t)

    -- all keys were asked for
    pub counted_ran : T.refusal ≡ None → (text : List ℕ) → WhereTold start now (Since rules GrownBy)
        → Where (λ h i. are_told h (datasets_in T.stored) ≡ true → text ≡ trial_line count (tally_of (trial_answers T.stored)))
        → ToldOrNoMemory Done text result report.before report.now report.faults_before report.faults_now → Out
    counted_ran none text w says (inr t) = starved_ran (each_told _ _ (with_since GrownBy Grown grown) w) t
    counted_ran none text w says (inl t) =
        told_of Done text t refl refl refl (λ e. absurd (apart is_disk_fault Done DiskFault refl refl e)) (λ _. (refl, refl))
        (either_leaves Done text t (λ _. leaves_since Done GrownBy (λ m j g. (g.schema, g)) w) (failed_since (each_told _ _ (with_since GrownBy Grown grown) w)))
        (λ h i e f names. let x = at_both _ w h i e f in
        let is : tried h count (trial_rules h.schema) ≡ trial_ends h count T None = ap (tried h count) x.ruled ∙ ap (trial_ends h count T) none in
        subst (λ o. Ends Fs result o nothing_early (troubles C Fs h i names []) a a report.before report.now) (sym is)
        (ends h i names (are_told h (datasets_in T.stored)) refl (says h i e f)))
      where
        line_of : List ℕ → Outcome
        line_of y = record { output = []; report = y; status = Done }

        told_line : (h i : Holdings) (names : List (List ℕ)) → Ends Fs result (Some (line_of text)) nothing_early (troubles C Fs h i names []) a a report.before report.now
        told_line h i names = ends_told Fs a a report.before report.before report.now nothing_early (troubles C Fs h i names []) (line_of text) result text [] report.faults_before report.faults_now tt refl (takes_nothing a) (takes_nothing report.before) (λ r. r) t

        untold : (h i : Holdings) (names : List (List ℕ)) → Ends Fs result None nothing_early (troubles C Fs h i names []) a a report.before report.now
        untold h i names = elim t.told as (λ _. Ends Fs result None nothing_early (troubles C Fs h i names []) a a report.before report.now) [
          | inl x ↦ subst (λ y. Ends Fs y None nothing_early (troubles C Fs h i names []) a a report.before report.now) (sym x.status) tt
          | inr x ↦ subst (λ y. Ends Fs y None nothing_early (troubles C Fs h i names []) a a report.before report.now) (sym x.status) (inr x.rose)
        ]

        ends : (h i : Holdings) (names : List (List ℕ)) (b : Bool) → are_told h (datasets_in T.stored) ≡ b → (are_told h (datasets_in T.stored) ≡ true → text ≡ trial_line count (tally_of (trial_answers T.stored)))
            → Ends Fs result (trial_ends h count T None) nothing_early (troubles C Fs h i names []) a a report.before report.now
        ends h i names true is same = rw (is, ← (same is)) (told_line h i names)
        ends h i names false is same = rw is (untold h i names)
