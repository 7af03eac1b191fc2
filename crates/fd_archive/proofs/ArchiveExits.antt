-- The exits of `archive`.
use Rattle.std.proofs.Common.{◌≡◌, ◌∙◌, ◌+◌, ℕ, false, true≢false, List, [], ◌++◌, length, Option, Some, None, refl, sym, ap, subst, inl, inr, append-nil, string_bytes, String, Global}
use Rattle.std.specs.Prelude.{◌⊎◌, IfSome, is_some, Result, Ok, Err, codes, Contains}
use Rattle.std.specs.Fmt.{decimal}
use Rattle.fd_bytes.specs.Causes.{Rose}
use Rattle.fd_io.specs.Streams.{Takes}
use Rattle.fd_disk.specs.Folders.{Holdings, WhereTold, folder_at}
use Rattle.fd_listing.specs.Lines.{line}
use Rattle.fd_key.specs.Pairs as keys
use Rattle.fd_schema.specs.Rules.{Rule}
use Rattle.fd_words.specs.declared.command.Command.{Command}
use Rattle.fd_words.specs.declared.command.Command.TheVariants.{Archive}
use Rattle.fd_split.specs.declared.refusal.Refusal.{Refusal}
use Rattle.fd_stored.specs.declared.status.Status.{Status}
use Rattle.fd_stored.specs.declared.status.Status.TheVariants.{Done, Missed, Words, Refused, InputFault, OutputFault, DiskFault, NoMemory, Damaged, Limit}
use Rattle.fd_stored.specs.Archiving.{Stored, datasets_in, pairs_for, taken}
use Rattle.fd_outcome.specs.Asking.{rules_of, stored_rules}
use Rattle.fd_stored.specs.Distinct.{count_distinct}
use Rattle.fd_stored.specs.Causes as causes
use Rattle.fd_stored.specs.Causes.{Cause, damaged_line, table_full, telling}
use Rattle.fd_outcome.specs.Ends.{AmongTaken, Calm, Ends, Opens, Leaves, LeavesBy, LeavesStored, ReadsOut, disk_failed, input_failed, no_memory, troubles}
use Rattle.fd_outcome.specs.Objects.{Failed, Failures, IsCalm, Object, failures, object}
use Rattle.fd_outcome.specs.Outcome.{Outcome, archive_ends, archived, nothing_early, outcome}
use Rattle.fd_outcome.specs.Ran.{Ran}
use Rattle.fd_stored.specs.Store.{AreNames, Grows, GrowsBy, IsFull, Stands}
use Rattle.fd_outcome.specs.Told.{Told, ToldOrNoMemory}
use Rattle.fd_outcome.proofs.Endings.{CanStop, CanTell, ends_early, ends_told, reached_nothing, takes_nothing}
use Rattle.fd_outcome.proofs.Exits.{apart, by_cause, cause_calm, cause_told, either_of, is_disk_fault, is_input_fault, is_output_fault, is_whole, is_words, neither, never_whole, rose_of}
use Rattle.fd_outcome.proofs.Starved.{within}
use Rattle.fd_outcome.proofs.Leaving.{grows_none, stays}
use Rattle.fd_schema.specs.Grammar as schemas
use Rattle.fd_schema.specs.Reading.{IsFirst}
use Rattle.fd_schema.specs.declared.fault.SchemaKind.{SchemaKind}
use Rattle.fd_telling.specs.Stops.{ToldSome}
use Rattle.fd_bulk.specs.declared.bulk.Bulk.{Bulk}
use Rattle.fd_bulk.specs.declared.bulk.BulkFault.{BulkFault}
use Rattle.fd_bulk.specs.declared.bulk.BulkFault.TheVariants as faults
use Rattle.fd_bulk.specs.Archived.{HasRead, IsCause, IsFront, IsRead, IsWholeTaken, OnDisk, OnInput}
use Rattle.fd_split.specs.Fields.{refusal_at}
use Rattle.fd_sections.specs.declared.bad.Bad.{Bad}
use Rattle.fd_sections.specs.declared.bad.Bad.TheVariants as bads
use Rattle.fd_sections.specs.declared.refusal.BadAt.{BadAt}
use Rattle.fd_sections.specs.Stream.{Bad_end}
use Rattle.fd_split.specs.Inputs as inputs
use Rattle.fd_split.specs.declared.refusal.Refusal.TheVariants as refusals
use Rattle.fd_archive.specs.Kept.{InputKept, RefusedKept, UnreadKept, WholeKept}
use Rattle.fd_archive.specs.Telling.{IsRefusalOf, ToldFault, ToldRefusal}
use Rattle.fd_archive.proofs.Growing.{grows_front, grows_of}
use Rattle.fd_archive.proofs.Told.{where_told}

module _ (root : List ℕ) (given : List keys.Pair) (workers : ℕ) (start now : Option Holdings) (sm sn : ℕ) (input : Object (List ℕ)) (a : Option (List ℕ)) (k : ℕ) (report : Object (List ℕ)) (result : Status) where
  abbrev C : Command
  C = Archive root given workers

  abbrev Out : Type 0
  Out = Ran C result (object start now sm sn) input (object a a k k) report

  abbrev Fs : Failures
  Fs = failures (object start now sm sn) input (object a a k k) report

  abbrev quiet : Type 0
  quiet = ¬ (Rose sm sn)

  abbrev full : Type 0
  full = Takes report.before report.now table_full

  abbrev ToldAs : Status → List ℕ → Type 0
  ToldAs s text = Told s text result report.before report.now report.faults_before report.faults_now

  abbrev LeavesIt : Status → Type 0
  LeavesIt r = WhereTold start now (Leaves C r quiet full input.before input.now)

  abbrev EndsAs : Holdings → Holdings → List (List ℕ) → List ℕ → Type 0
  EndsAs h i names octets = Ends Fs result (outcome C h names octets) nothing_early (troubles C Fs h i names octets) a a report.before report.now

  -- of the octets of the input, of what the store held and of what it holds
  abbrev Where : (List ℕ → Holdings → Holdings → Type 0) → Type 0
  Where P = (octets : List ℕ) (h i : Holdings) → input.before ≡ Some octets → start ≡ Some h → now ≡ Some i → P octets h i

  pub at_some : {A : Type 0} (o : Option A) (P : A → Type 0) → IfSome o P → (x : A) → o ≡ Some x → P x
  at_some o P p x e = subst (λ q. IfSome q P) e p

  pub at_both : (P : Holdings → Holdings → Type 0) → WhereTold start now P → (h i : Holdings) → start ≡ Some h → now ≡ Some i → P h i
  at_both P w h i e f = subst (λ n. WhereTold (Some h) n P) f (subst (λ s. WhereTold s now P) e w)

  -- a status with its line ends the run so
  told_of : (s : Status) (text : List ℕ) → ToldAs s text → is_words s ≡ false → is_output_fault s ≡ false → (s ≡ InputFault → Failed input) → (s ≡ DiskFault → Rose sm sn)
      → (Takes report.before report.now text → Calm C s input (object a a k k) report) → LeavesIt result → (((s ≡ Done) ⊎ (s ≡ Missed)) → ReadsOut C input.before input.now)
      → Where (λ octets h i. (names : List (List ℕ)) → EndsAs h i names octets) → Out
  told_of s text told words output_no input_fault disk calm leaves read ends_so =
      let e = either_of s result text report.before report.now report.faults_before report.faults_now told in
      record {
        ends = go input.before start now refl refl refl;
        store_is = leaves;
        words = neither s result Words e (apart is_words s Words words refl) (apart is_words OutputFault Words refl refl);
        to_end = λ w. read (elim w as (λ _. (s ≡ Done) ⊎ (s ≡ Missed)) [
          | inl x ↦ inl (elim e as (λ _. s ≡ Done) [ inl y ↦ sym y ∙ x | inr y ↦ absurd (apart is_whole OutputFault Done refl refl (sym y ∙ x)) ])
          | inr x ↦ inr (elim e as (λ _. s ≡ Missed) [ inl y ↦ sym y ∙ x | inr y ↦ absurd (apart is_whole OutputFault Missed refl refl (sym y ∙ x)) ])
        ]);
        calm = elim told.told as (λ _. Calm C result input (object a a k k) report) [
          | inl x ↦ subst (λ y. Calm C y input (object a a k k) report) (sym x.status) (calm x.took)
          | inr x ↦ subst (λ y. Calm C y input (object a a k k) report) (sym x.status) tt
        ];
        input_fault = λ x. input_fault (elim e as (λ _. s ≡ InputFault) [ inl is ↦ sym is ∙ x | inr is ↦ absurd (apart is_input_fault OutputFault InputFault refl refl (sym is ∙ x)) ]);
        output_fault = λ x. inr (rose_of s result text report.before report.now report.faults_before report.faults_now (apart is_output_fault s OutputFault output_no refl) told x);
        disk_fault = λ x. disk (elim e as (λ _. s ≡ DiskFault) [ inl is ↦ sym is ∙ x | inr is ↦ absurd (apart is_disk_fault OutputFault DiskFault refl refl (sym is ∙ x)) ]);
      }
    where
      go : (o : Option (List ℕ)) (s n : Option Holdings) → input.before ≡ o → start ≡ s → now ≡ n → IfSome o (λ octets. IfSome s (λ h. IfSome n (λ i. (names : List (List ℕ)) → AreNames h names → EndsAs h i names octets)))
      go None s n e f g = tt
      go (Some octets) None n e f g = tt
      go (Some octets) (Some h) None e f g = tt
      go (Some octets) (Some h) (Some i) e f g = λ names an. ends_so octets h i e f g names

  -- the line of an outcome
  line_ends : (octets : List ℕ) (h i : Holdings) (names : List (List ℕ)) (s : Status) (text : List ℕ) → CanTell s → outcome C h names octets ≡ Some (record { output = []; report = text; status = s }) → ToldAs s text → EndsAs h i names octets
  line_ends octets h i names s text can is told =
      subst (λ o. Ends Fs result o nothing_early (troubles C Fs h i names octets) a a report.before report.now) (sym is)
      (ends_told Fs a a report.before report.before report.now nothing_early (troubles C Fs h i names octets) (record { output = []; report = text; status = s }) result text [] report.faults_before report.faults_now can refl (takes_nothing a) (takes_nothing report.before) (λ r. r) told)

  -- a run that stops early
  stop_ends : (octets : List ℕ) (h i : Holdings) (names : List (List ℕ)) (s : Status) (text : List ℕ) → CanStop Fs (troubles C Fs h i names octets) s text → ToldAs s text → EndsAs h i names octets
  stop_ends octets h i names s text can told =
      ends_early Fs a a report.before report.before report.now nothing_early (troubles C Fs h i names octets) (outcome C h names octets) s result text [] report.faults_before report.faults_now
      (within h names octets C) can (reached_nothing a report.before nothing_early) (λ r. r) told

  -- ---- once the store has rules

  module _ (rules : List Rule) (ruled : IfSome start (λ h. rules_of h.schema ≡ Ok rules)) (told_both : is_some now ≡ is_some start) where
    pub leaves_by : (r : Status) → Where (λ octets h i. LeavesStored r quiet full workers rules given octets input.now h i) → LeavesIt r
    leaves_by r all = go start now input.before refl refl refl told_both ruled
      where
        go : (s n : Option Holdings) (o : Option (List ℕ)) → start ≡ s → now ≡ n → input.before ≡ o → is_some n ≡ is_some s → IfSome s (λ h. rules_of h.schema ≡ Ok rules) → WhereTold s n (λ h j. IfSome o (λ octets. LeavesBy r quiet full workers (rules_of h.schema) given octets input.now h j))
        go None None o e f g t q = tt
        go None (Some j) o e f g t q = absurd (true≢false t)
        go (Some h) None o e f g t q = absurd (true≢false (sym t))
        go (Some h) (Some j) None e f g t q = tt
        go (Some h) (Some j) (Some octets) e f g t q = subst (λ x. LeavesBy r quiet full workers x given octets input.now h j) (sym q) (all octets h j g e f)

    either_leaves : (s : Status) (text : List ℕ) → ToldAs s text → (Takes report.before report.now text → Where (λ octets h i. LeavesStored s quiet full workers rules given octets input.now h i)) → Where (λ octets h i. quiet → Grows workers (pairs_for (taken rules given octets).stored) h i) → LeavesIt result
    either_leaves s text told at grown = leaves_by result (λ octets h i x y z. elim told.told as (λ _. LeavesStored result quiet full workers rules given octets input.now h i) [
      | inl w ↦ subst (λ q. LeavesStored q quiet full workers rules given octets input.now h i) (sym w.status) (at w.took octets h i x y z)
      | inr w ↦ subst (λ q. LeavesStored q quiet full workers rules given octets input.now h i) (sym w.status) (grown octets h i x y z)
    ])

    outcome_is : (octets : List ℕ) (h : Holdings) (names : List (List ℕ)) (o : Outcome) → start ≡ Some h → archived given (Ok rules) octets ≡ o → outcome C h names octets ≡ Some o
    outcome_is octets h names o e is = ap (λ r. Some (archived given r octets)) (at_some start (λ x. rules_of x.schema ≡ Ok rules) ruled h e) ∙ ap (λ x. Some x) is

    -- what was stored is a front of what is stored of the input
    front_grows : (all : List Stored) → WhereTold start now (Grows workers (pairs_for all)) → IfSome input.before (λ octets. IsFront all (taken rules given octets)) → Where (λ octets h i. Grows workers (pairs_for (taken rules given octets).stored) h i)
    front_grows all grows front octets h i x y z =
        let f = at_some input.before (λ o. IsFront all (taken rules given o)) front octets x in
        subst (λ ss. Grows workers (pairs_for ss) h i) (sym f.1) (grows_front workers all f.0 h i (at_both (Grows workers (pairs_for all)) grows h i y z))

    -- memory ran out
    starved_ran : (all : List Stored) → WhereTold start now (Grows workers (pairs_for all)) → IfSome input.before (λ octets. IsFront all (taken rules given octets)) → ToldAs NoMemory no_memory → Out
    starved_ran all grows front told =
        told_of NoMemory no_memory told refl refl (λ e. absurd (apart is_input_fault NoMemory InputFault refl refl e)) (λ e. absurd (apart is_disk_fault NoMemory DiskFault refl refl e)) (λ t. tt)
        (either_leaves NoMemory no_memory told (λ _. front_grows all grows front) (λ octets h i x y z q. front_grows all grows front octets h i x y z)) (never_whole _ NoMemory refl)
        (λ octets h i x y z names. stop_ends octets h i names NoMemory no_memory refl told)

    -- a call of the store failed
    disk_ran : (all : List Stored) → WhereTold start now (Grows workers (pairs_for all)) → IfSome input.before (λ octets. IsFront all (taken rules given octets)) → Rose sm sn → ToldAs DiskFault disk_failed → Out
    disk_ran all grows front rose told =
        told_of DiskFault disk_failed told refl refl (λ e. absurd (apart is_input_fault DiskFault InputFault refl refl e)) (λ e. rose) (λ t. tt)
        (either_leaves DiskFault disk_failed told (λ _ octets h i x y z q. front_grows all grows front octets h i x y z) (λ octets h i x y z q. front_grows all grows front octets h i x y z)) (never_whole _ DiskFault refl)
        (λ octets h i x y z names. stop_ends octets h i names DiskFault disk_failed (tt, rose, refl) told)

    -- a read failed
    unread_ran : UnreadKept workers rules given input.before input.now start now → Failed input → ToldAs InputFault input_failed → Out
    unread_ran u rose told =
        told_of InputFault input_failed told refl refl (λ e. rose) (λ e. absurd (apart is_disk_fault InputFault DiskFault refl refl e)) (λ t. tt)
        (either_leaves InputFault input_failed told
        (λ _ octets h i x y z. let r = read octets x in record {
          seen = r.seen;
          rest = r.rest;
          input_is = r.octets_are;
          left_is = r.left_is;
          grows = subst (λ ss. GrowsBy workers (pairs_for ss) h i) (sym r.whole) (at_both (GrowsBy workers (pairs_for u.all)) u.grows h i y z);
        })
        (λ octets h i x y z q. let r = read octets x in subst (λ ss. Grows workers (pairs_for ss) h i) (sym r.front.1) (grows_front workers u.all r.front.0 h i (grows_of workers u.all h i (at_both (GrowsBy workers (pairs_for u.all)) u.grows h i y z)))))
        (never_whole _ InputFault refl)
        (λ octets h i x y z names. stop_ends octets h i names InputFault input_failed (rose, refl) told)
      where
        read : (octets : List ℕ) → input.before ≡ Some octets → HasRead rules given octets input.now u.all
        read octets x = at_some input.before (λ o. HasRead rules given o input.now u.all) u.read octets x

    -- all messages are stored
    whole_grows : (bulk : Bulk) → (w : WholeKept workers rules given input.before input.now start now bulk) → Where (λ octets h i. GrowsBy workers (pairs_for (taken rules given octets).stored) h i)
    whole_grows bulk w octets h i x y z = subst (λ ss. GrowsBy workers (pairs_for ss) h i) (sym (at_some input.before (λ o. IsWholeTaken w.all bulk.junk (taken rules given o)) w.taken_is octets x).stored) (at_both (GrowsBy workers (pairs_for w.all)) w.grows h i y z)

    abbrev counts_line : Bulk → List ℕ
    counts_line bulk = line (codes "archived " ++ decimal bulk.fields ++ codes " datasets " ++ decimal bulk.datasets ++ codes " junk " ++ decimal bulk.junk)

    pub whole_ran : (bulk : Bulk) → WholeKept workers rules given input.before input.now start now bulk → IfSome input.before (λ octets. input.now ≡ Some []) → IsCalm input
        → ToldOrNoMemory Done (counts_line bulk) result report.before report.now report.faults_before report.faults_now → Out
    whole_ran bulk w read calm told = elim told as (λ _. Out) [
      | inl t ↦
          told_of Done (counts_line bulk) t refl refl (λ e. absurd (apart is_input_fault Done InputFault refl refl e)) (λ e. absurd (apart is_disk_fault Done DiskFault refl refl e)) (λ _. (calm, refl))
          (either_leaves Done (counts_line bulk) t (λ _. whole_grows bulk w) grown) (λ _. read)
          (λ octets h i x y z names. line_ends octets h i names Done (counts_line bulk) tt (outcome_is octets h names _ y (is octets x)) t)
      | inr t ↦ told_of NoMemory no_memory t refl refl (λ e. absurd (apart is_input_fault NoMemory InputFault refl refl e)) (λ e. absurd (apart is_disk_fault NoMemory DiskFault refl refl e)) (λ t. tt)
          (either_leaves NoMemory no_memory t (λ _ octets h i x y z. grows_of workers (taken rules given octets).stored h i (whole_grows bulk w octets h i x y z)) grown) (never_whole _ NoMemory refl)
          (λ octets h i x y z names. stop_ends octets h i names NoMemory no_memory refl t)
    ]
      where
        grown : Where (λ octets h i. quiet → Grows workers (pairs_for (taken rules given octets).stored) h i)
        grown octets h i x y z q = grows_of workers (taken rules given octets).stored h i (whole_grows bulk w octets h i x y z)

        is : (octets : List ℕ) → input.before ≡ Some octets → archived given (Ok rules) octets ≡ record { output = []; report = counts_line bulk; status = Done }
        is octets x =
            let t = at_some input.before (λ o. IsWholeTaken w.all bulk.junk (taken rules given o)) w.taken_is octets x in
            ap (archive_ends (taken rules given octets)) t.refusal
            ∙ ap (λ ss. record { output = []; report = line (codes "archived " ++ decimal (length ss) ++ codes " datasets " ++ decimal (count_distinct (datasets_in ss)) ++ codes " junk " ++ decimal (taken rules given octets).junk); status = Done }) t.stored
            ∙ ap (λ n. record { output = []; report = line (codes "archived " ++ decimal (length w.all) ++ codes " datasets " ++ decimal (count_distinct (datasets_in w.all)) ++ codes " junk " ++ decimal n); status = Done }) t.skipped
            ∙ ap (λ n. record { output = []; report = line (codes "archived " ++ decimal n ++ codes " datasets " ++ decimal (count_distinct (datasets_in w.all)) ++ codes " junk " ++ decimal bulk.junk); status = Done }) (sym w.fields)
            ∙ ap (λ n. record { output = []; report = line (codes "archived " ++ decimal bulk.fields ++ codes " datasets " ++ decimal n ++ codes " junk " ++ decimal bulk.junk); status = Done }) (sym w.datasets)

    -- ---- the input is refused, with what stands before it stored

    cause_ran : (all : List Stored) → WhereTold start now (GrowsBy workers (pairs_for all)) → (s : Status) (text : List ℕ) → is_words s ≡ false → is_output_fault s ≡ false → is_input_fault s ≡ false → is_disk_fault s ≡ false → is_whole s ≡ false → CanTell s
        → Calm C s input (object a a k k) report → ((octets : List ℕ) (h i : Holdings) → GrowsBy workers (pairs_for (taken rules given octets).stored) h i → LeavesStored s quiet full workers rules given octets input.now h i)
        → ((octets : List ℕ) → input.before ≡ Some octets → ((taken rules given octets).stored ≡ all) × (archived given (Ok rules) octets ≡ record { output = []; report = text; status = s })) → ToldAs s text → Out
    cause_ran all grows s text words output_no input_no disk_no whole can calm leaves says told =
        told_of s text told words output_no (λ e. absurd (apart is_input_fault s InputFault input_no refl e)) (λ e. absurd (apart is_disk_fault s DiskFault disk_no refl e)) (λ _. calm)
        (either_leaves s text told (λ _ octets h i x y z. leaves octets h i (grown octets h i x y z)) (λ octets h i x y z q. grows_of workers (taken rules given octets).stored h i (grown octets h i x y z))) (never_whole _ s whole)
        (λ octets h i x y z names. line_ends octets h i names s text can (outcome_is octets h names _ y (says octets x).1) told)
      where
        grown : Where (λ octets h i. GrowsBy workers (pairs_for (taken rules given octets).stored) h i)
        grown octets h i x y z = subst (λ ss. GrowsBy workers (pairs_for ss) h i) (sym (says octets x).0) (at_both (GrowsBy workers (pairs_for all)) grows h i y z)

    module _ {X : Type 0} where
      abbrev RefusedOf : BulkFault X → Type 0
      RefusedOf fault = RefusedKept workers rules given input.before input.now start now fault

      -- what is refused, and why
      said : (fault : BulkFault X) (w : RefusedOf fault) (octets : List ℕ) → input.before ≡ Some octets → ((taken rules given octets).stored ≡ w.all) × ((c : Cause) × ((taken rules given octets).refusal ≡ Some c) × IsCause fault c)
      said fault w octets x = at_some input.before (λ o. ((taken rules given o).stored ≡ w.all) × ((c : Cause) × ((taken rules given o).refusal ≡ Some c) × IsCause fault c)) w.refused octets x

      starved_refused : (fault : BulkFault X) → RefusedOf fault → ToldAs NoMemory no_memory → Out
      starved_refused fault w told = starved_ran w.all (where_told start now (GrowsBy workers (pairs_for w.all)) (Grows workers (pairs_for w.all)) (grows_of workers w.all) w.grows) (front input.before w.refused) told
        where
          front : (o : Option (List ℕ)) → IfSome o (λ octets. ((taken rules given octets).stored ≡ w.all) × ((c : Cause) × ((taken rules given octets).refusal ≡ Some c) × IsCause fault c)) → IfSome o (λ octets. IsFront w.all (taken rules given octets))
          front None e = tt
          front (Some octets) e = ([], e.0 ∙ sym (append-nil w.all))

      stream_ran : (fault : BulkFault X) (refusal : Refusal) → ((c : Cause) → IsCause fault c → c ≡ causes.InStream refusal) → RefusedOf fault → IsCalm input → ToldAs (telling (causes.InStream refusal)).status (telling (causes.InStream refusal)).line → Out
      stream_ran fault refusal only w calm told =
          let cause = causes.InStream refusal in
          cause_ran w.all w.grows (telling cause).status (telling cause).line (by_cause (λ s. is_words s ≡ false) refl refl refl cause) (by_cause (λ s. is_output_fault s ≡ false) refl refl refl cause)
          (by_cause (λ s. is_input_fault s ≡ false) refl refl refl cause) (by_cause (λ s. is_disk_fault s ≡ false) refl refl refl cause) (by_cause (λ s. is_whole s ≡ false) refl refl refl cause) (cause_told cause)
          (cause_calm C input (object a a k k) report (calm, refl) cause)
          (λ octets h i g. by_cause (λ s. LeavesStored s quiet full workers rules given octets input.now h i) g (grows_of workers (taken rules given octets).stored h i g) (inl g) cause)
          (λ octets x. let e = said fault w octets x in (e.0, ap (archive_ends (taken rules given octets)) (e.1.1 ∙ ap (λ (c : Cause). Some c) (only e.1.0 e.1.2))))
          told

      refusal_ran : (fault : BulkFault X) (refusal : Refusal) → ((c : Cause) → IsCause fault c → c ≡ causes.InStream refusal) → RefusedOf fault → IsCalm input → ToldRefusal refusal result report.before report.now report.faults_before report.faults_now → Out
      refusal_ran fault refusal only w calm told = elim told as (λ _. Out) [ inl t ↦ stream_ran fault refusal only w calm t | inr t ↦ starved_refused fault w t ]

      no_rule_ran : (number : ℕ) (text : String Global) → RefusedOf (faults.NoRule number text) → IsCalm input → ToldAs Refused (line (codes "refused NoRule " ++ string_bytes text)) → Out
      no_rule_ran number text w calm told =
          cause_ran w.all w.grows Refused (line (codes "refused NoRule " ++ string_bytes text)) refl refl refl refl refl tt (calm, refl) (λ octets h i g. g)
          (λ octets x.
          let e = said (faults.NoRule number text) w octets x in
          let key = e.1.2.0 in
          let is : (taken rules given octets).refusal ≡ Some (causes.NoRule key) = e.1.1 ∙ ap (λ (c : Cause). Some c) e.1.2.1 in
          (e.0, ap (archive_ends (taken rules given octets)) is ∙ ap (λ t. record { output = []; report = line (codes "refused NoRule " ++ t); status = Refused }) (sym e.1.2.2)))
          told

      too_many_ran : (count : ℕ) → RefusedOf (faults.TooMany count) → IsCalm input → ToldAs (telling causes.TooManyDatasets).status (telling causes.TooManyDatasets).line → Out
      too_many_ran count w calm told =
          cause_ran w.all w.grows Limit (telling causes.TooManyDatasets).line refl refl refl refl refl tt (inl (calm, refl)) (λ octets h i g. inl g)
          (λ octets x. let e = said (faults.TooMany count) w octets x in (e.0, ap (archive_ends (taken rules given octets)) (e.1.1 ∙ ap (λ (c : Cause). Some c) e.1.2.0)))
          told

    -- ---- the store refuses

    opens : (octets : List ℕ) (h : Holdings) (names : List (List ℕ)) (name : List ℕ) → start ≡ Some h → Contains (datasets_in (taken rules given octets).stored) name → Opens C h names octets name
    opens octets h names name e among = subst (λ r. AmongTaken given r octets name) (sym (at_some start (λ x. rules_of x.schema ≡ Ok rules) ruled h e)) among

    broken_ran : (all : List Stored) → WhereTold start now (Grows workers (pairs_for all)) → IfSome input.before (λ octets. IsFront all (taken rules given octets)) → (name : List ℕ) (broken : causes.Broken)
        → IfSome start (λ s. Stands name (folder_at s name) broken) → IfSome input.before (λ octets. Contains (datasets_in (taken rules given octets).stored) name)
        → ToldOrNoMemory Damaged (damaged_line name broken) result report.before report.now report.faults_before report.faults_now → Out
    broken_ran all grows front name broken stands among told = elim told as (λ _. Out) [
      | inl t ↦
          told_of Damaged (damaged_line name broken) t refl refl (λ e. absurd (apart is_input_fault Damaged InputFault refl refl e)) (λ e. absurd (apart is_disk_fault Damaged DiskFault refl refl e)) (λ _. tt)
          (either_leaves Damaged (damaged_line name broken) t (λ _. front_grows all grows front) (λ octets h i x y z q. front_grows all grows front octets h i x y z)) (never_whole _ Damaged refl)
          (λ octets h i x y z names. stop_ends octets h i names Damaged (damaged_line name broken)
          (name, broken, opens octets h names name y (at_some input.before (λ o. Contains (datasets_in (taken rules given o).stored) name) among octets x), at_some start (λ s. Stands name (folder_at s name) broken) stands h y, refl) t)
      | inr t ↦ starved_ran all grows front t
    ]

    full_ran : (all : List Stored) → WhereTold start now (Grows workers (pairs_for all)) → IfSome input.before (λ octets. IsFront all (taken rules given octets)) → (name : List ℕ)
        → IfSome now (λ t. IsFull t name) → IfSome input.before (λ octets. Contains (datasets_in (taken rules given octets).stored) name) → ToldAs Limit table_full → Out
    full_ran all grows front name is_full among told =
        told_of Limit table_full told refl refl (λ e. absurd (apart is_input_fault Limit InputFault refl refl e)) (λ e. absurd (apart is_disk_fault Limit DiskFault refl refl e)) (λ took. inr (tt, took))
        (either_leaves Limit table_full told
        (λ took octets h i x y z. inr (
          took,
          record {
            name = name;
            among = contains octets x;
            full = at_some now (λ t. IsFull t name) is_full i z;
            grows = front_grows all grows front octets h i x y z;
          },
        ))
        (λ octets h i x y z q. front_grows all grows front octets h i x y z))
        (never_whole _ Limit refl)
        (λ octets h i x y z names. stop_ends octets h i names Limit table_full (tt, refl, (name, opens octets h names name y (contains octets x), at_some now (λ t. IsFull t name) is_full i z)) told)
      where
        contains : (octets : List ℕ) → input.before ≡ Some octets → Contains (datasets_in (taken rules given octets).stored) name
        contains octets x = at_some input.before (λ o. Contains (datasets_in (taken rules given o).stored) name) among octets x

    -- octets that are no message
    bad_told : (n : ℕ) (bad : Bad) → inputs.refused false n (Bad_end bad) ≡ Some (refusal_at (n + 1) bad)
    bad_told n (bads.Edition edition) = refl
    bad_told n (bads.Length said found) = refl
    bad_told n (bads.Section want found) = refl
    bad_told n (bads.Short section len) = refl
    bad_told n (bads.NoEnd at) = refl
    bad_told n (bads.MultiField section) = refl
    bad_told n (bads.TooLong len) = refl
    bad_told n bads.NoStart = refl
    bad_told n (bads.Over section said left) = refl

    message_ran : {X : Type 0} (at : BadAt) → RefusedOf {X = X} (faults.Message at) → IsCalm input → (refusal : Refusal) → IsRefusalOf at refusal → ToldRefusal refusal result report.before report.now report.faults_before report.faults_now → Out
    message_ran at w calm refusal of told =
        let same : refusal_at (w.messages + 1) at.bad ≡ refusal = (let e = sym (bad_told w.messages at.bad) ∙ of false w.messages w.numbered in cc e) in
        refusal_ran (faults.Message at) refusal (λ c is. is ∙ ap (λ (n : ℕ). causes.InStream (refusal_at n at.bad)) w.numbered ∙ ap causes.InStream same) w calm told

    -- why not all is stored
    pub halted_ran : {X : Type 0} (fault : BulkFault X) → InputKept workers rules given input.before input.now start now (Err fault) → IsRead (Err fault) (IsCalm input) → OnInput (Err fault) (Failed input)
        → OnDisk (Err fault) (Rose sm sn) → ToldFault fault result report.before report.now report.faults_before report.faults_now → Out
    halted_ran (faults.Input f) w calm read rose told = unread_ran w read told
    halted_ran (faults.Message at) w calm read rose told = message_ran at w calm told.0 told.1 told.2
    halted_ran (faults.NoMap number field) w calm read rose told = refusal_ran (faults.NoMap number field) (refusals.NoMap number field) (λ c is. is) w calm told
    halted_ran (faults.Cut t) w calm read rose told = refusal_ran (faults.Cut t) (refusals.Cut t) (λ c is. is) w calm told
    halted_ran (faults.Key number fault) w calm read rose told = refusal_ran (faults.Key number fault) (refusals.Key number fault) (λ c is. is) w calm told
    halted_ran (faults.NoRule number text) w calm read rose told = elim told as (λ _. Out) [ inl t ↦ no_rule_ran number text w calm t | inr t ↦ starved_refused (faults.NoRule number text) w t ]
    halted_ran faults.Disk w calm read rose told = disk_ran w.all w.grows w.front rose told
    halted_ran (faults.NotATable dataset at want found) w calm read rose told = broken_ran w.all w.grows w.front (string_bytes dataset) (causes.BadTable (record { at = at; want = want; found = found })) w.stop.0 w.stop.1 told
    halted_ran (faults.Damaged dataset damage) w calm read rose told = broken_ran w.all w.grows w.front (string_bytes dataset) (causes.BadFile damage) w.stop.0 w.stop.1 told
    halted_ran (faults.TableFull count) w calm read rose told = full_ran w.all w.grows w.front w.stop.1.0 w.stop.1.1 w.stop.1.2 told
    halted_ran (faults.TooMany count) w calm read rose told = too_many_ran count w calm told
    halted_ran faults.InputLimit w calm read rose told = refusal_ran faults.InputLimit refusals.Input (λ c is. is) w calm (inl told)
    halted_ran faults.NoMemory w calm read rose told = starved_ran w.all w.grows w.front told

-- ---- where the store has no rules; nothing of it has changed

module _ (root : List ℕ) (given : List keys.Pair) (workers : ℕ) (has : Option Holdings) (sm sn : ℕ) (input : Object (List ℕ)) (a : Option (List ℕ)) (k : ℕ) (report : Object (List ℕ)) (result : Status) where
  abbrev LeavesAs : Status → Result (List Rule) Cause → Holdings → List ℕ → Type 0
  LeavesAs s rules h octets = LeavesBy s (quiet root given workers has has sm sn input a k report result) (full root given workers has has sm sn input a k report result) workers rules given octets input.now h h

  same_leaves : ((octets : List ℕ) (h : Holdings) → has ≡ Some h → LeavesAs result (rules_of h.schema) h octets) → LeavesIt root given workers has has sm sn input a k report result result
  same_leaves all = go has input.before refl
    where
      go : (s : Option Holdings) (o : Option (List ℕ)) → has ≡ s → WhereTold s s (λ h j. IfSome o (λ octets. LeavesBy result (quiet root given workers has has sm sn input a k report result) (full root given workers has has sm sn input a k report result) workers (rules_of h.schema) given octets input.now h j))
      go None o e = tt
      go (Some h) None e = tt
      go (Some h) (Some octets) e = all octets h e

  abbrev OutSame : Type 0
  OutSame = Out root given workers has has sm sn input a k report result

  abbrev ToldSo : Status → List ℕ → Type 0
  ToldSo s text = Told s text result report.before report.now report.faults_before report.faults_now

  -- there is no schema
  pub missing_ran : IfSome has (λ h. h.schema ≡ None) → IsCalm input → ToldSo Refused (telling causes.SchemaMissing).line → OutSame
  missing_ran none calm told =
      told_of root given workers has has sm sn input a k report result Refused (telling causes.SchemaMissing).line told refl refl (λ e. absurd (apart is_input_fault Refused InputFault refl refl e)) (λ e. absurd (apart is_disk_fault Refused DiskFault refl refl e)) (λ _. (calm, refl))
      (same_leaves (λ octets h e. subst (λ x. LeavesAs result x h octets) (sym (missing h e)) (stays h))) (never_whole _ Refused refl)
      (λ octets h i x y z names. line_ends root given workers has has sm sn input a k report result octets h i names Refused (telling causes.SchemaMissing).line tt (ap (λ r. Some (archived given r octets)) (missing h y)) told)
    where
      missing : (h : Holdings) → has ≡ Some h → rules_of h.schema ≡ Err causes.SchemaMissing
      missing h e = ap rules_of (subst (λ q. IfSome q (λ x. x.schema ≡ None)) e none)

  -- the schema couldn't be read
  pub unread_schema_ran : Rose sm sn → ToldSo DiskFault disk_failed → OutSame
  unread_schema_ran rose told =
      told_of root given workers has has sm sn input a k report result DiskFault disk_failed told refl refl (λ e. absurd (apart is_input_fault DiskFault InputFault refl refl e)) (λ e. rose) (λ _. tt)
      (same_leaves (λ octets h e. elim told.told as (λ _. LeavesAs result (rules_of h.schema) h octets) [
        | inl w ↦ subst (λ q. LeavesAs q (rules_of h.schema) h octets) (sym w.status) (idle_disk octets h (rules_of h.schema))
        | inr w ↦ subst (λ q. LeavesAs q (rules_of h.schema) h octets) (sym w.status) (idle_output octets h (rules_of h.schema))
      ]))
      (never_whole _ DiskFault refl)
      (λ octets h i x y z names. stop_ends root given workers has has sm sn input a k report result octets h i names DiskFault disk_failed (tt, rose, refl) told)
    where
      idle_disk : (octets : List ℕ) (h : Holdings) (r : Result (List Rule) Cause) → LeavesAs DiskFault r h octets
      idle_disk octets h (Ok rules) = λ q. grows_none workers _ h
      idle_disk octets h (Err cause) = stays h

      idle_output : (octets : List ℕ) (h : Holdings) (r : Result (List Rule) Cause) → LeavesAs OutputFault r h octets
      idle_output octets h (Ok rules) = λ q. grows_none workers _ h
      idle_output octets h (Err cause) = stays h

  -- the stored schema is damaged, or passes a limit
  pub schema_ran : (line : ℕ) (kind : SchemaKind) → ToldSome result report.before report.now report.faults_before report.faults_now
      → ((text : List ℕ) (fault : schemas.Fault) → IsFirst text line kind fault → ToldOrNoMemory (telling (causes.InStored text fault)).status (telling (causes.InStored text fault)).line result report.before report.now report.faults_before report.faults_now)
      → IfSome has (λ h. (text : List ℕ) × (fault : schemas.Fault) × (h.schema ≡ Some text) × IsFirst text line kind fault) → IsCalm input → OutSame
  schema_ran line kind (s, text, which, told) told_if says calm =
      told_of root given workers has has sm sn input a k report result s text told
      (chosen s which (λ s. is_words s ≡ false) refl refl refl) (chosen s which (λ s. is_output_fault s ≡ false) refl refl refl)
      (chosen s which (λ s. s ≡ InputFault → Failed input) (λ e. absurd (apart is_input_fault Damaged InputFault refl refl e)) (λ e. absurd (apart is_input_fault Limit InputFault refl refl e)) (λ e. absurd (apart is_input_fault NoMemory InputFault refl refl e)))
      (chosen s which (λ s. s ≡ DiskFault → Rose sm sn) (λ e. absurd (apart is_disk_fault Damaged DiskFault refl refl e)) (λ e. absurd (apart is_disk_fault Limit DiskFault refl refl e)) (λ e. absurd (apart is_disk_fault NoMemory DiskFault refl refl e)))
      (λ _. chosen s which (λ s. Calm (Archive root given workers) s input (object a a k k) report) tt (inl (calm, refl)) tt)
      (same_leaves (λ octets h e. let x = said h e in subst (λ y. LeavesAs result y h octets) (sym x.2) (stays h)))
      (chosen s which (λ s. ((s ≡ Done) ⊎ (s ≡ Missed)) → ReadsOut (Archive root given workers) input.before input.now) (never_whole _ Damaged refl) (never_whole _ Limit refl) (never_whole _ NoMemory refl))
      (λ octets h i x y z names.
      let q = said h y in
      let cause = causes.InStored q.0 q.1 in
      elim (told_if q.0 q.1 q.3) as (λ _. EndsAs root given workers has has sm sn input a k report result h i names octets) [
        | inl t ↦ line_ends root given workers has has sm sn input a k report result octets h i names (telling cause).status (telling cause).line (cause_told cause) (ap (λ r. Some (archived given r octets)) q.2) t
        | inr t ↦ stop_ends root given workers has has sm sn input a k report result octets h i names NoMemory no_memory refl t
      ])
    where
      chosen : (s : Status) → (s ≡ Damaged) ⊎ ((s ≡ Limit) ⊎ (s ≡ NoMemory)) → (P : Status → Type 0) → P Damaged → P Limit → P NoMemory → P s
      chosen s (inl e) P d l n = subst P (sym e) d
      chosen s (inr (inl e)) P d l n = subst P (sym e) l
      chosen s (inr (inr e)) P d l n = subst P (sym e) n

      said : (h : Holdings) → has ≡ Some h → (text : List ℕ) × (fault : schemas.Fault) × (rules_of h.schema ≡ Err (causes.InStored text fault)) × IsFirst text line kind fault
      said h e =
          let x = subst (λ q. IfSome q (λ h. (text : List ℕ) × (fault : schemas.Fault) × (h.schema ≡ Some text) × IsFirst text line kind fault)) e says in
          (x.0, x.1, ap rules_of x.2 ∙ ap (stored_rules x.0) x.3.place, x.3)
