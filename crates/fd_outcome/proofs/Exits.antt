-- The exits of a run: how its status and what it has written make what it has done.
use Rattle.std.proofs.Common.{◌≡◌, ◌∙◌, ◌++◌, ℕ, Bool, true, false, true≢false, List, [], Option, Some, refl, sym, ap, subst, inl, inr}
use Rattle.std.specs.Prelude.{◌⊎◌, IfSome, codes, if◌then◌else◌}
use Rattle.std.specs.Fmt.{decimal}
use Rattle.fd_bytes.specs.Causes.{Rose}
use Rattle.fd_disk.specs.Folders.{Holdings, WhereTold}
use Rattle.fd_words.specs.declared.command.Command.{Command}
use Rattle.fd_stored.specs.declared.status.Status.{Status}
use Rattle.fd_stored.specs.declared.status.Status.TheVariants.{Done, Missed, Words, Refused, InputFault, OutputFault, DiskFault, NoMemory, Damaged, Limit}
use Rattle.fd_io.specs.Streams.{Takes, TakesFront}
use Rattle.fd_request.specs.FaultTexts.{request_wrong_text}
use Rattle.fd_listing.specs.Lines.{blank}
use Rattle.fd_split.specs.declared.refusal.Refusal.{Refusal}
use Rattle.fd_split.specs.declared.refusal.Refusal.TheVariants as refusals
use Rattle.fd_stored.specs.Refusals.{refusal_status}
use Rattle.fd_stored.specs.Causes as causes
use Rattle.fd_stored.specs.Causes.{Cause, telling, table_full, is_schema_limit, schema_limit, schema_place, is_request_limit, refused_so, damaged_so, limited_so}
use Rattle.fd_outcome.specs.Told.{Told}
use Rattle.fd_outcome.specs.Outcome.{Outcome, outcome, early}
use Rattle.fd_outcome.specs.Objects.{Object, Failed, Failures, failures, object}
use Rattle.fd_stored.specs.Store.{AreNames}
use Rattle.fd_outcome.specs.Ends.{Ends, Runs, AreCalm, Calm, Leaves, ReadsOut, WhereAsked, troubles, output_failed}
use Rattle.fd_outcome.specs.Ran.{Ran}
use Rattle.fd_outcome.proofs.Asked.{asked_all, where_asked}
use Rattle.fd_outcome.proofs.Endings.{Begun, Reached, CanStop, CanTell, ends_early, ends_told, ends_unwritten, ends_on_the_way, ends_with_line, nothing_of, takes_nothing}
use Rattle.fd_outcome.proofs.Starved.{within}

-- the status that a telling ends with: its own, or that of a failed write
abbrev pub Either : Status → Status → Type 0
Either s result = (result ≡ s) ⊎ (result ≡ OutputFault)

pub either_of : (s result : Status) (text : List ℕ) (c d : Option (List ℕ)) (m n : ℕ) → Told s text result c d m n → Either s result
either_of s result text c d m n told = elim told.told as (λ _. Either s result) [ inl x ↦ inl x.status | inr x ↦ inr x.status ]

-- a failed write is told only where one failed
pub rose_of : (s result : Status) (text : List ℕ) (c d : Option (List ℕ)) (m n : ℕ) → ¬ (s ≡ OutputFault) → Told s text result c d m n → result ≡ OutputFault → Rose m n
rose_of s result text c d m n other told e = elim told.told as (λ _. Rose m n) [ inl x ↦ absurd (other (sym x.status ∙ e)) | inr x ↦ x.rose ]

-- of the two, it isn't a third
pub neither : (s result third : Status) → Either s result → ¬ (s ≡ third) → ¬ (OutputFault ≡ third) → ¬ (result ≡ third)
neither s result third (inl is) a b e = a (sym is ∙ e)
neither s result third (inr is) a b e = b (sym is ∙ e)

-- ---- tests that tell statuses apart

abbrev pub is_words : Status → Bool
is_words Words = true
is_words _ = false

abbrev pub is_whole : Status → Bool
is_whole Done = true
is_whole Missed = true
is_whole _ = false

abbrev pub is_input_fault : Status → Bool
is_input_fault InputFault = true
is_input_fault _ = false

abbrev pub is_output_fault : Status → Bool
is_output_fault OutputFault = true
is_output_fault _ = false

abbrev pub is_disk_fault : Status → Bool
is_disk_fault DiskFault = true
is_disk_fault _ = false

pub apart : (t : Status → Bool) (s third : Status) → t s ≡ false → t third ≡ true → ¬ (s ≡ third)
apart t s third fails passes e = true≢false (sym passes ∙ ap t (sym e) ∙ fails)

-- a run that tells such a status with such a line is calm if it ends so
calm_told : (command : Command) (s result : Status) (text : List ℕ) (mid : Option (List ℕ)) (input output report : Object (List ℕ)) (m n : ℕ)
    → (Takes mid report.now text → Calm command s input output report) → Told s text result mid report.now m n → Calm command result input output report
calm_told command s result text mid input output report m n calm told = elim told.told as (λ _. Calm command result input output report) [
  | inl x ↦ subst (λ y. Calm command y input output report) (sym x.status) (calm x.took)
  | inr x ↦ subst (λ y. Calm command y input output report) (sym x.status) tt
]

-- ---- the statuses of refusals

-- what holds of 3 and 9 holds of the status of a refused stream
pub by_refusal : (P : Status → Type 0) → P Refused → P Limit → (refusal : Refusal) → P (refusal_status refusal)
by_refusal P p q (refusals.Message at) = p
by_refusal P p q (refusals.NoMap number field) = p
by_refusal P p q (refusals.Cut cut) = p
by_refusal P p q (refusals.Key number fault) = p
by_refusal P p q (refusals.Field number fault) = p
by_refusal P p q (refusals.TooLong len) = q
by_refusal P p q (refusals.Points points) = q
by_refusal P p q refusals.Input = q

-- what holds of 3, 8 and 9 holds of the status of a cause
pub by_cause : (P : Status → Type 0) → P Refused → P Damaged → P Limit → (cause : Cause) → P (telling cause).status
by_cause P p b q (causes.InStream refusal) = by_refusal P p q refusal
by_cause P p b q causes.SchemaMissing = p
by_cause P p b q causes.SchemaPresent = p
by_cause P p b q causes.SchemaDifferent = p
by_cause P p b q (causes.InSchema text fault) = go (is_schema_limit fault.kind)
  where
    go : (c : Bool) → P (if c then schema_limit text fault else refused_so (schema_place text fault)).status
    go true = q
    go false = p
by_cause P p b q (causes.InStored text fault) = go (is_schema_limit fault.kind)
  where
    go : (c : Bool) → P (if c then schema_limit text fault else damaged_so (schema_place text fault)).status
    go true = q
    go false = b
by_cause P p b q (causes.InRequest fault) = go (is_request_limit fault.kind)
  where
    go : (c : Bool) → P (if c then limited_so (request_wrong_text fault.kind) else refused_so (codes "request " ++ decimal fault.at ++ blank (request_wrong_text fault.kind))).status
    go true = q
    go false = p
by_cause P p b q (causes.NoRule key) = p
by_cause P p b q (causes.NoRequest key) = p
by_cause P p b q causes.TooManyKeys = q
by_cause P p b q (causes.NoLayer layer key) = p
by_cause P p b q causes.TooManyDatasets = q
by_cause P p b q causes.NoDataset = p
by_cause P p b q (causes.WriterTooGreat entry writer) = q

pub refusal_told : (refusal : Refusal) → CanTell (refusal_status refusal)
refusal_told refusal = by_refusal CanTell tt tt refusal

pub cause_told : (cause : Cause) → CanTell (telling cause).status
cause_told cause = by_cause CanTell tt tt tt cause

pub refusal_calm : (command : Command) (input output report : Object (List ℕ)) → AreCalm input output → (refusal : Refusal) → Calm command (refusal_status refusal) input output report
refusal_calm command input output report calm refusal = by_refusal (λ s. Calm command s input output report) calm (inl calm) refusal

pub cause_calm : (command : Command) (input output report : Object (List ℕ)) → AreCalm input output → (cause : Cause) → Calm command (telling cause).status input output report
cause_calm command input output report calm cause = by_cause (λ s. Calm command s input output report) calm tt (inl calm) cause

-- such a status isn't 0 or 1
pub never_whole : (P : Type 0) (s : Status) → is_whole s ≡ false → ((s ≡ Done) ⊎ (s ≡ Missed)) → P
never_whole P s other (inl x) = absurd (apart is_whole s Done other refl x)
never_whole P s other (inr x) = absurd (apart is_whole s Missed other refl x)

pub refusal_not_whole : (P : Type 0) (refusal : Refusal) → ((refusal_status refusal ≡ Done) ⊎ (refusal_status refusal ≡ Missed)) → P
refusal_not_whole P refusal = by_refusal (λ s. ((s ≡ Done) ⊎ (s ≡ Missed)) → P) (never_whole P Refused refl) (never_whole P Limit refl) refusal

pub cause_not_whole : (P : Type 0) (cause : Cause) → (((telling cause).status ≡ Done) ⊎ ((telling cause).status ≡ Missed)) → P
cause_not_whole P cause = by_cause (λ s. ((s ≡ Done) ⊎ (s ≡ Missed)) → P) (never_whole P Refused refl) (never_whole P Damaged refl) (never_whole P Limit refl) cause

-- ---- the exits of any run

-- the status may end a run early
abbrev pub IsStop : Status → Type 0
IsStop Done = ⊥
IsStop Missed = ⊥
IsStop Words = ⊥
IsStop Refused = ⊥
IsStop InputFault = Unit {0}
IsStop OutputFault = ⊥
IsStop DiskFault = Unit {0}
IsStop NoMemory = Unit {0}
IsStop Damaged = Unit {0}
IsStop Limit = Unit {0}

-- a status of one kind isn't one of another
isnt : (P : Status → Type 0) (s third : Status) → P s → ¬ (P third) → ¬ (s ≡ third)
isnt P s third p no_third e = no_third (subst P e p)

module _ (command : Command) (store : Object Holdings) (input output report : Object (List ℕ)) where
  abbrev pub F : Failures
  F = failures store input output report

  abbrev pub LeavesIt : Status → Type 0
  LeavesIt s = WhereTold store.before store.now (Leaves command s (¬ (Failed store)) (Takes report.before report.now table_full) input.before input.now)

  abbrev pub WhereNamed : ((octets : List ℕ) (h i : Holdings) (names : List (List ℕ)) → Type 0) → Type 0
  WhereNamed P = WhereAsked command input.before store.before store.now (λ octets h i. (names : List (List ℕ)) → AreNames h names → P octets h i names)

  -- the output has taken what the outcome writes, and the report all of its report but this text
  pub record TellsRest (s : Status) (text : List ℕ) (mid : Option (List ℕ)) (o : Outcome) : Type 0 where
    pub status_is : s ≡ o.status
    pub wrote : Takes output.before output.now o.output
    pub front : List ℕ
    pub rest_is : o.report ≡ front ++ text
    pub told : Takes report.before mid front

  -- an outcome is told
  pub told_ran : (s result : Status) (text : List ℕ) (mid : Option (List ℕ)) (m n : ℕ) → Told s text result mid report.now m n → (Rose m n → Failed report) → CanTell s
      → WhereNamed (λ octets h i names. (o : Outcome) × (outcome command h names octets ≡ Some o) × TellsRest s text mid o)
      → Calm command s input output report → ((r : Status) → Either s r → LeavesIt r) → ((s ≡ Done) ⊎ (s ≡ Missed) → ReadsOut command input.before input.now)
      → Ran command result store input output report
  told_ran s result text mid m n told reported can is calm leaves ends_read =
      let e = either_of s result text mid report.now m n told in
      record {
        ends = where_asked _ _ (λ octets h i x names an. let y = x names an in
            subst (λ z. Ends F result z (early command h names octets) (troubles command F h i names octets) output.before output.now report.before report.now) (sym y.1)
            (ends_told F output.before output.now report.before mid report.now (early command h names octets) (troubles command F h i names octets) y.0 result text y.2.front m n
            (subst CanTell y.2.status_is can) y.2.rest_is y.2.wrote y.2.told reported (subst (λ t. Told t text result mid report.now m n) y.2.status_is told)))
            command input.before store.before store.now is;
        store_is = leaves result e;
        words = neither s result Words e (isnt CanTell s Words can (λ x. x)) (apart is_words OutputFault Words refl refl);
        to_end = λ w. ends_read (elim w as (λ _. (s ≡ Done) ⊎ (s ≡ Missed)) [
          | inl x ↦ inl (elim e as (λ _. s ≡ Done) [ inl y ↦ sym y ∙ x | inr y ↦ absurd (apart is_whole OutputFault Done refl refl (sym y ∙ x)) ])
          | inr x ↦ inr (elim e as (λ _. s ≡ Missed) [ inl y ↦ sym y ∙ x | inr y ↦ absurd (apart is_whole OutputFault Missed refl refl (sym y ∙ x)) ])
        ]);
        calm = calm_told command s result text mid input output report m n (λ t. calm) told;
        input_fault = λ x. absurd (neither s result InputFault e (isnt CanTell s InputFault can (λ y. y)) (apart is_input_fault OutputFault InputFault refl refl) x);
        output_fault = λ x. inr (reported (rose_of s result text mid report.now m n (isnt CanTell s OutputFault can (λ y. y)) told x));
        disk_fault = λ x. absurd (neither s result DiskFault e (isnt CanTell s DiskFault can (λ y. y)) (apart is_disk_fault OutputFault DiskFault refl refl) x);
      }

  -- a run stops early, and its line is told
  pub stopped_ran : (s result : Status) (text : List ℕ) (mid : Option (List ℕ)) (m n : ℕ) → Told s text result mid report.now m n → (Rose m n → Failed report) → IsStop s
      → WhereNamed (λ octets h i names. CanStop F (troubles command F h i names octets) s text × ((front : List ℕ) × Reached output.before output.now report.before mid (early command h names octets) front))
      → (Takes mid report.now text → Calm command s input output report) → ((r : Status) → Either s r → LeavesIt r) → (s ≡ InputFault → Failed input) → (s ≡ DiskFault → Failed store)
      → Ran command result store input output report
  stopped_ran s result text mid m n told reported stop is calm leaves input_failed store_failed =
      let e = either_of s result text mid report.now m n told in
      record {
        ends = where_asked _ _ (λ octets h i x names an. let y = x names an in
            ends_early F output.before output.now report.before mid report.now (early command h names octets) (troubles command F h i names octets) (outcome command h names octets) s result text y.1.0 m n
            (within h names octets command) y.0 y.1.1 reported told)
            command input.before store.before store.now is;
        store_is = leaves result e;
        words = neither s result Words e (isnt IsStop s Words stop (λ x. x)) (apart is_words OutputFault Words refl refl);
        to_end = λ w. absurd (elim w as (λ _. ⊥) [
          | inl x ↦ neither s result Done e (isnt IsStop s Done stop (λ y. y)) (apart is_whole OutputFault Done refl refl) x
          | inr x ↦ neither s result Missed e (isnt IsStop s Missed stop (λ y. y)) (apart is_whole OutputFault Missed refl refl) x
        ]);
        calm = calm_told command s result text mid input output report m n calm told;
        input_fault = λ x. input_failed (elim e as (λ _. s ≡ InputFault) [ inl is ↦ sym is ∙ x | inr is ↦ absurd (apart is_input_fault OutputFault InputFault refl refl (sym is ∙ x)) ]);
        output_fault = λ x. inr (reported (rose_of s result text mid report.now m n (isnt IsStop s OutputFault stop (λ y. y)) told x));
        disk_fault = λ x. store_failed (elim e as (λ _. s ≡ DiskFault) [ inl is ↦ sym is ∙ x | inr is ↦ absurd (apart is_disk_fault OutputFault DiskFault refl refl (sym is ∙ x)) ]);
      }

  -- what is left where a write failed
  faulted : (result : Status) → result ≡ OutputFault → Runs command result store input output report → LeavesIt OutputFault → Failed output ⊎ Failed report → Ran command result store input output report
  faulted result is ends leaves failed = record {
    ends = ends;
    store_is = subst LeavesIt (sym is) leaves;
    words = λ x. apart is_words OutputFault Words refl refl (sym is ∙ x);
    to_end = λ w. absurd (elim w as (λ _. ⊥) [ inl x ↦ apart is_whole OutputFault Done refl refl (sym is ∙ x) | inr x ↦ apart is_whole OutputFault Missed refl refl (sym is ∙ x) ]);
    calm = subst (λ y. Calm command y input output report) (sym is) tt;
    input_fault = λ x. absurd (apart is_input_fault OutputFault InputFault refl refl (sym is ∙ x));
    output_fault = λ x. failed;
    disk_fault = λ x. absurd (apart is_disk_fault OutputFault DiskFault refl refl (sym is ∙ x));
  }

  -- the output failed on its way or at its end, and that is told
  pub unwritten_ran : (result : Status) (mid : Option (List ℕ)) (m n : ℕ) → Told OutputFault output_failed result mid report.now m n → (Rose m n → Failed report) → Failed output
      → WhereNamed (λ octets h i names. IfSome (outcome command h names octets) (λ x. TakesFront output.before output.now x.output) × ((front : List ℕ) × Begun report.before mid (early command h names octets) front))
      → LeavesIt OutputFault → Ran command result store input output report
  unwritten_ran result mid m n told reported failed is leaves =
      faulted result (elim told.told as (λ _. result ≡ OutputFault) [ inl x ↦ x.status | inr x ↦ x.status ])
      (where_asked _ _ (λ octets h i x names an. let y = x names an in
      ends_unwritten F output.before output.now report.before mid report.now (early command h names octets) (troubles command F h i names octets) (outcome command h names octets) result y.1.0 m n y.0 failed y.1.1 reported told)
      command input.before store.before store.now is)
      leaves (inl failed)

  -- the report failed at a line that is told on the way
  pub cut_ran : Failed report
      → WhereNamed (λ octets h i names. TakesFront output.before output.now (early command h names octets).output × TakesFront report.before report.now (early command h names octets).report)
      → LeavesIt OutputFault → Ran command OutputFault store input output report
  cut_ran failed is leaves =
      faulted OutputFault refl
      (where_asked _ _ (λ octets h i x names an. let y = x names an in
      ends_on_the_way F output.before output.now report.before report.now (early command h names octets) (troubles command F h i names octets) (outcome command h names octets) failed y.0 y.1)
      command input.before store.before store.now is)
      leaves (inr failed)

-- ---- the exits of a run that writes nothing on the output, and on the report one line

module _ (command : Command) (s result : Status) (text : List ℕ) (store : Object Holdings) (input report : Object (List ℕ)) (a : Option (List ℕ)) (k : ℕ)
    (told : Told s text result report.before report.now report.faults_before report.faults_now)
    (calm : Takes report.before report.now text → Calm command s input (object a a k k) report)
    (leaves : (r : Status) → Either s r → WhereTold store.before store.now (Leaves command r (¬ (Failed store)) (Takes report.before report.now table_full) input.before input.now)) where
  -- a status that ends a run early
  pub stop_ran : ((octets : List ℕ) (h i : Holdings) (names : List (List ℕ)) → CanStop (failures store input (object a a k k) report) (troubles command (failures store input (object a a k k) report) h i names octets) s text)
      → is_words s ≡ false → is_whole s ≡ false → is_output_fault s ≡ false → (s ≡ InputFault → Failed input) → (s ≡ DiskFault → Failed store)
      → Ran command result store input (object a a k k) report
  stop_ran can words whole output input_failed store_failed =
      let e = either_of s result text report.before report.now report.faults_before report.faults_now told in
      let f = failures store input (object a a k k) report in
      record {
        ends = asked_all _ (λ octets h i names an. ends_early f a a report.before report.before report.now (early command h names octets) (troubles command f h i names octets) (outcome command h names octets) s result text []
            report.faults_before report.faults_now (within h names octets command) (can octets h i names)
            (record { output = nothing_of a (early command h names octets).output; rest = (early command h names octets).report; is = refl; report = takes_nothing report.before }) (λ r. r) told) command input.before store.before store.now;
        store_is = leaves result e;
        words = neither s result Words e (apart is_words s Words words refl) (apart is_words OutputFault Words refl refl);
        to_end = λ w. absurd (elim w as (λ _. ⊥) [
          | inl x ↦ neither s result Done e (apart is_whole s Done whole refl) (apart is_whole OutputFault Done refl refl) x
          | inr x ↦ neither s result Missed e (apart is_whole s Missed whole refl) (apart is_whole OutputFault Missed refl refl) x
        ]);
        calm = calm_told command s result text report.before input (object a a k k) report report.faults_before report.faults_now calm told;
        input_fault = λ x. input_failed (elim e as (λ _. s ≡ InputFault) [ inl is ↦ sym is ∙ x | inr is ↦ absurd (apart is_input_fault OutputFault InputFault refl refl (sym is ∙ x)) ]);
        output_fault = λ x. inr (rose_of s result text report.before report.now report.faults_before report.faults_now (apart is_output_fault s OutputFault output refl) told x);
        disk_fault = λ x. store_failed (elim e as (λ _. s ≡ DiskFault) [ inl is ↦ sym is ∙ x | inr is ↦ absurd (apart is_disk_fault OutputFault DiskFault refl refl (sym is ∙ x)) ]);
      }

  -- the status of an outcome that is only a line
  pub line_ran : (o : Outcome) → s ≡ o.status → text ≡ o.report → o.output ≡ [] → CanTell s
      → WhereAsked command input.before store.before store.now (λ octets h i. (names : List (List ℕ)) → outcome command h names octets ≡ Some o)
      → is_words s ≡ false → is_input_fault s ≡ false → is_output_fault s ≡ false → is_disk_fault s ≡ false
      → ((s ≡ Done) ⊎ (s ≡ Missed) → ReadsOut command input.before input.now)
      → Ran command result store input (object a a k k) report
  line_ran o status_is report_is empty can is words input_no output_no disk_no ends_read =
      let e = either_of s result text report.before report.now report.faults_before report.faults_now told in
      let f = failures store input (object a a k k) report in
      let telling : Told o.status o.report result report.before report.now report.faults_before report.faults_now = subst (λ y. Told y o.report result report.before report.now report.faults_before report.faults_now) status_is (subst (λ y. Told s y result report.before report.now report.faults_before report.faults_now) report_is told) in
      record {
        ends = where_asked _ _ (λ octets h i same names an. subst (λ y. Ends f result y (early command h names octets) (troubles command f h i names octets) a a report.before report.now) (sym (same names))
            (ends_with_line f a report.before report.now (early command h names octets) (troubles command f h i names octets) o result report.faults_before report.faults_now (subst CanTell status_is can) empty (λ r. r) telling)) command input.before store.before store.now is;
        store_is = leaves result e;
        words = neither s result Words e (apart is_words s Words words refl) (apart is_words OutputFault Words refl refl);
        to_end = λ w. ends_read (elim w as (λ _. (s ≡ Done) ⊎ (s ≡ Missed)) [
          | inl x ↦ inl (elim e as (λ _. s ≡ Done) [ inl y ↦ sym y ∙ x | inr y ↦ absurd (apart is_whole OutputFault Done refl refl (sym y ∙ x)) ])
          | inr x ↦ inr (elim e as (λ _. s ≡ Missed) [ inl y ↦ sym y ∙ x | inr y ↦ absurd (apart is_whole OutputFault Missed refl refl (sym y ∙ x)) ])
        ]);
        calm = calm_told command s result text report.before input (object a a k k) report report.faults_before report.faults_now calm told;
        input_fault = λ x. absurd (neither s result InputFault e (apart is_input_fault s InputFault input_no refl) (apart is_input_fault OutputFault InputFault refl refl) x);
        output_fault = λ x. inr (rose_of s result text report.before report.now report.faults_before report.faults_now (apart is_output_fault s OutputFault output_no refl) told x);
        disk_fault = λ x. absurd (neither s result DiskFault e (apart is_disk_fault s DiskFault disk_no refl) (apart is_disk_fault OutputFault DiskFault refl refl) x);
      }
