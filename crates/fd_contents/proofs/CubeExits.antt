-- The exits of `cubes`.
use Rattle.std.proofs.Common.{◌≡◌, ◌∙◌, ℕ, false, true≢false, List, [], Option, Some, None, IfSome, refl, sym, ap, subst, inl, inr, append-nil, string_bytes}
use Rattle.std.specs.Prelude.{◌⊎◌, Contains, Ok, Err, is_some}
use Rattle.std.specs.Result.{is_ok}
use Rattle.fd_bytes.specs.Causes.{Rose}
use Rattle.fd_io.specs.Streams.{Takes}
use Rattle.fd_disk.specs.Folders.{Holdings, WhereTold, folder_at}
use Rattle.fd_request.specs.Expansion.{Keyword}
use Rattle.fd_request.specs.Reading.{seen_kind}
use Rattle.fd_schema.specs.Grammar as schemas
use Rattle.fd_schema.specs.Reading.{IsFirst}
use Rattle.fd_schema.specs.declared.fault.SchemaKind.{SchemaKind}
use Rattle.fd_words.specs.declared.command.Command.{Command}
use Rattle.fd_words.specs.declared.command.Command.TheVariants as commands
use Rattle.fd_inventory.specs.Written.{text_lines}
use Rattle.fd_stored.specs.declared.status.Status.{Status}
use Rattle.fd_stored.specs.declared.status.Status.TheVariants.{Done, Missed, Words, Refused, InputFault, OutputFault, DiskFault, NoMemory, Damaged, Limit}
use Rattle.fd_stored.specs.Causes as causes
use Rattle.fd_stored.specs.Causes.{Cause, damaged_line, telling}
use Rattle.fd_outcome.specs.Ends.{AreSound, Calm, Ends, ReadsOut, Troubles, disk_failed, input_failed, no_memory, troubles}
use Rattle.fd_outcome.specs.Cubing.{keys_refusal}
use Rattle.fd_outcome.specs.Matching.{Keys}
use Rattle.fd_outcome.specs.Noticing.{AreUndamaged, ReadsFitly}
use Rattle.fd_outcome.specs.Objects.{Failed, Failures, IsCalm, Object, failures, object}
use Rattle.fd_outcome.specs.Outcome.{Early, Outcome, lines_early, printed, refused}
use Rattle.fd_stored.specs.Store.{AreNames, IsLookedThrough, Stands}
use Rattle.fd_outcome.specs.Told.{Told, ToldOrNoMemory}
use Rattle.fd_outcome.proofs.Damaging.{damaged_held}
use Rattle.fd_outcome.proofs.Endings.{CanStop, ends_at_once, ends_early, ends_unwritten, ends_with_line, takes_nothing}
use Rattle.fd_outcome.proofs.Exits.{apart, by_cause, cause_calm, cause_told, either_of, is_disk_fault, is_input_fault, is_output_fault, is_whole, is_words, neither, rose_of}
use Rattle.fd_telling.specs.declared.stop.Stop.{Stop}
use Rattle.fd_telling.specs.declared.stop.Stop.TheVariants as stops
use Rattle.fd_retrieve.specs.Ready.{IsBrokenOf, NoneIsDamaged}
use Rattle.fd_telling.specs.Stops.{OfDataset, OnDisk, OnInput, OnRefusal, ToldSome, ToldStop, seen_broken}
use Rattle.fd_retrieve.proofs.ReadyLemmas.{contains_among}
use Rattle.fd_contents.specs.Asked.{IsEarly, Refuses, asked_in}
use Rattle.fd_contents.specs.Cubing.{AreCubes, Comes, CubesRan, CubesTo, HasPrinted, HasRefused, IsComplete, IsRefused, WhereCubed}
use Rattle.fd_contents.specs.Gathering.{FindsAll}
use Rattle.fd_contents.specs.Told.{AreStarved, AreUnwritten, AreWritten, KeysPrinted, KeysRefused, KeysStarved, ToldKeys, ToldLines}
use Rattle.fd_contents.proofs.Exits.{both_at, store_at}
use Rattle.fd_contents.proofs.Gathered.{all_kept, chosen}
use Rattle.fd_contents.proofs.Noticed.{undamaged_at}

module _ (root : List ℕ) (before now : Option Holdings) (sm sn : ℕ) (input output report : Object (List ℕ)) (result : Status) (looks : WhereTold before now IsLookedThrough)
    (unread : ReadsFitly (commands.Cubes root) (object before now sm sn) input) where
  abbrev S : Object Holdings
  S = object before now sm sn

  abbrev F : Failures
  F = failures S input output report

  abbrev command : Command
  command = commands.Cubes root

  abbrev pub Out : Type 0
  Out = CubesRan root result S input output report

  abbrev ToldAs : Status → List ℕ → Type 0
  ToldAs s text = Told s text result report.before report.now report.faults_before report.faults_now

  -- of what the input and the store tell, and of the names of the datasets
  abbrev pub Each : (List ℕ → Holdings → Holdings → List (List ℕ) → Type 0) → Type 0
  Each P = (octets : List ℕ) (h i : Holdings) (names : List (List ℕ)) → input.before ≡ Some octets → before ≡ Some h → now ≡ Some i → AreNames h names → P octets h i names

  where_cubed : (P : List ℕ → Holdings → Holdings → List (List ℕ) → Type 0) → Each P → WhereCubed root result S input output report P
  where_cubed P all = of_input input.before refl
    where
      of_now : (octets : List ℕ) (h : Holdings) (a : Option Holdings) → input.before ≡ Some octets → before ≡ Some h → now ≡ a → IfSome a (λ i. (names : List (List ℕ)) → AreNames h names → P octets h i names)
      of_now octets h None d e f = tt
      of_now octets h (Some i) d e f = λ names an. all octets h i names d e f an

      of_store : (octets : List ℕ) (s : Option Holdings) → input.before ≡ Some octets → before ≡ s → IfSome s (λ h. IfSome now (λ i. (names : List (List ℕ)) → AreNames h names → P octets h i names))
      of_store octets None d e = tt
      of_store octets (Some h) d e = of_now octets h now d e refl

      of_input : (o : Option (List ℕ)) → input.before ≡ o → IfSome o (λ octets. IfSome before (λ h. IfSome now (λ i. (names : List (List ℕ)) → AreNames h names → P octets h i names)))
      of_input None d = tt
      of_input (Some octets) d = of_store octets before d refl

  abbrev T : Holdings → Holdings → List (List ℕ) → List ℕ → Troubles
  T h i names octets = troubles command F h i names octets

  abbrev EndsBy : List ℕ → Holdings → Holdings → List (List ℕ) → Status → Outcome → Early → Type 0
  EndsBy octets h i names s o e = Ends F s (Some o) e (T h i names octets) output.before output.now report.before report.now

  abbrev pub ComesTo : List ℕ → Holdings → Holdings → List (List ℕ) → Type 0
  ComesTo octets h i names = Comes root result S input output report octets h i names

  -- ---- where nothing failed

  come : (octets : List ℕ) (h i : Holdings) (names : List (List ℕ)) (o : Outcome) (e : Early) (s : Status) → EndsBy octets h i names s o e → AreSound command h names octets → ¬ (s ≡ InputFault) → ¬ (s ≡ OutputFault) → ¬ (s ≡ DiskFault)
      → (s ≡ o.status) ⊎ (s ≡ NoMemory)
  come octets h i names o e Done x sound n1 n2 n3 = inl x.status
  come octets h i names o e Missed x sound n1 n2 n3 = inl x.status
  come octets h i names o e Words x sound n1 n2 n3 = absurd x
  come octets h i names o e Refused x sound n1 n2 n3 = inl x.status
  come octets h i names o e InputFault x sound n1 n2 n3 = absurd (n1 refl)
  come octets h i names o e OutputFault x sound n1 n2 n3 = absurd (n2 refl)
  come octets h i names o e DiskFault x sound n1 n2 n3 = absurd (n3 refl)
  come octets h i names o e NoMemory x sound n1 n2 n3 = inr refl
  come octets h i names o e Damaged (inl x) sound n1 n2 n3 = inl x.status
  come octets h i names o e Damaged (inr (text, (name, broken, opens, stands, line_is), rest)) sound n1 n2 n3 =
      absurd (true≢false (sym (sound name opens) ∙ ap is_some (damaged_held name (folder_at h name) broken stands)))
  come octets h i names o e Limit (inl x) sound n1 n2 n3 = inl x.status
  come octets h i names o e Limit (inr (text, (stores, line_is, full), rest)) sound n1 n2 n3 = absurd stores

  complete_by : (octets : List ℕ) (h i : Holdings) (names : List (List ℕ)) → ComesTo octets h i names → (result ≡ InputFault → Failed input) → (result ≡ OutputFault → Failed output ⊎ Failed report) → (result ≡ DiskFault → Failed S) → IsComplete root result S input output report octets h names
  complete_by octets h i names comes input_fault output_fault disk_fault = λ sound ns ni nk nr. go comes sound (λ e. ni (input_fault e)) (λ e. elim (output_fault e) as (λ _. ⊥) [ inl f ↦ nk f | inr f ↦ nr f ]) (λ e. ns (disk_fault e))
    where
      go : ComesTo octets h i names → AreSound command h names octets → ¬ (result ≡ InputFault) → ¬ (result ≡ OutputFault) → ¬ (result ≡ DiskFault) → ((o : Outcome) × CubesTo h names octets o × (result ≡ o.status)) ⊎ (result ≡ NoMemory)
      go (inl (o, to, ends)) sound n1 n2 n3 = elim (come octets h i names o (lines_early o.output) result ends sound n1 n2 n3) as (λ _. ((o : Outcome) × CubesTo h names octets o × (result ≡ o.status)) ⊎ (result ≡ NoMemory)) [ inl is ↦ inl (o, to, is) | inr is ↦ inr is ]
      go (inr (never, ends)) sound n1 n2 n3 = elim (come octets h i names (printed []) (lines_early []) result ends sound n1 n2 n3) as (λ _. ((o : Outcome) × CubesTo h names octets o × (result ≡ o.status)) ⊎ (result ≡ NoMemory)) [ inl is ↦ absurd (never is) | inr is ↦ inr is ]

  -- none of the datasets that it opens is damaged
  abbrev AreWell : Type 0
  AreWell = Each (λ octets h i names. AreUndamaged command h names octets)

  ran_by : Each ComesTo → (result ≡ Done → AreWell) → ¬ (result ≡ Words) → (result ≡ InputFault → Failed input) → (result ≡ OutputFault → Failed output ⊎ Failed report) → (result ≡ DiskFault → Failed S) → Calm command result input output report
      → (((result ≡ Done) ⊎ (result ≡ Missed)) → ReadsOut command input.before input.now) → Out
  ran_by ends undamaged words input_fault output_fault disk_fault calm read = record {
    ends = where_cubed ComesTo ends;
    complete = where_cubed (λ octets h i names. IsComplete root result S input output report octets h names) (λ octets h i names d e f an. complete_by octets h i names (ends octets h i names d e f an) input_fault output_fault disk_fault);
    undamaged = λ done. where_cubed (λ octets h i names. AreUndamaged command h names octets) (undamaged done);
    unread = unread;
    looks = looks;
    words = words;
    to_end = read;
    calm = calm;
    input_fault = input_fault;
    output_fault = output_fault;
    disk_fault = disk_fault;
  }

  -- a run that tells such a status with its line
  told_ran : (s : Status) (text : List ℕ) → ToldAs s text → is_words s ≡ false → is_output_fault s ≡ false → is_whole s ≡ false → (s ≡ InputFault → Failed input) → (s ≡ DiskFault → Failed S) → Calm command s input output report → Each ComesTo → Out
  told_ran s text told words output_no whole input_fault disk calm ends =
      let e = either_of s result text report.before report.now report.faults_before report.faults_now told in
      ran_by ends (λ done. absurd (neither s result Done e (apart is_whole s Done whole refl) (apart is_whole OutputFault Done refl refl) done)) (neither s result Words e (apart is_words s Words words refl) (apart is_words OutputFault Words refl refl))
      (λ x. input_fault (elim e as (λ _. s ≡ InputFault) [ inl is ↦ sym is ∙ x | inr is ↦ absurd (apart is_input_fault OutputFault InputFault refl refl (sym is ∙ x)) ]))
      (λ x. inr (rose_of s result text report.before report.now report.faults_before report.faults_now (apart is_output_fault s OutputFault output_no refl) told x))
      (λ x. disk (elim e as (λ _. s ≡ DiskFault) [ inl is ↦ sym is ∙ x | inr is ↦ absurd (apart is_disk_fault OutputFault DiskFault refl refl (sym is ∙ x)) ]))
      (elim e as (λ _. Calm command result input output report) [
        | inl is ↦ subst (λ y. Calm command y input output report) (sym is) calm
        | inr is ↦ subst (λ y. Calm command y input output report) (sym is) tt
      ])
      (λ w. absurd (elim w as (λ _. ⊥) [
        | inl x ↦ neither s result Done e (apart is_whole s Done whole refl) (apart is_whole OutputFault Done refl refl) x
        | inr x ↦ neither s result Missed e (apart is_whole s Missed whole refl) (apart is_whole OutputFault Missed refl refl) x
      ]))

  -- ---- where nothing was written to the output

  module _ (nothing : output.now ≡ output.before) where
    early_ran : (s : Status) (text : List ℕ) → ToldAs s text → is_words s ≡ false → is_output_fault s ≡ false → is_whole s ≡ false → (s ≡ InputFault → Failed input) → (s ≡ DiskFault → Failed S) → Calm command s input output report
        → Each (λ octets h i names. CanStop F (T h i names octets) s text) → Out
    early_ran s text told words output_no whole input_fault disk calm can =
        told_ran s text told words output_no whole input_fault disk calm
        (λ octets h i names d e f an. inr (
          neither s result Done (either_of s result text report.before report.now report.faults_before report.faults_now told) (apart is_whole s Done whole refl) (apart is_whole OutputFault Done refl refl),
          subst (λ b. Ends F result (Some (printed [])) (lines_early []) (T h i names octets) output.before b report.before report.now) (sym nothing)
              (ends_at_once F output.before report.before report.now (T h i names octets) (Some (printed [])) s result text report.faults_before report.faults_now (can octets h i names d e f an) (λ r. r) told),
        ))

    pub starved_ran : ToldAs NoMemory no_memory → Out
    starved_ran told = early_ran NoMemory no_memory told refl refl refl (λ e. absurd (apart is_input_fault NoMemory InputFault refl refl e)) (λ e. absurd (apart is_disk_fault NoMemory DiskFault refl refl e)) tt (λ octets h i names d e f an. refl)

    disk_ran : ToldAs DiskFault disk_failed → Rose sm sn → Out
    disk_ran told rose = early_ran DiskFault disk_failed told refl refl refl (λ e. absurd (apart is_input_fault DiskFault InputFault refl refl e)) (λ e. rose) tt (λ octets h i names d e f an. (tt, rose, refl))

    input_ran : ToldAs InputFault input_failed → Failed input → Out
    input_ran told rose = early_ran InputFault input_failed told refl refl refl (λ e. rose) (λ e. absurd (apart is_disk_fault InputFault DiskFault refl refl e)) tt (λ octets h i names d e f an. (rose, refl))

    -- what is asked for
    abbrev pub Asks : List Keyword → Type 0
    Asks keywords = IfSome before (λ h. IfSome input.before (λ octets. asked_in h octets ≡ Ok keywords))

    broken_ran : (keywords : List Keyword) → Asks keywords → (name : List ℕ) (broken : causes.Broken) → ((h : Holdings) (names : List (List ℕ)) → before ≡ Some h → AreNames h names → Contains names name × Stands name (folder_at h name) broken) → ToldAs Damaged (damaged_line name broken) → Out
    broken_ran keywords asked name broken says told = early_ran Damaged (damaged_line name broken) told refl refl refl (λ e. absurd (apart is_input_fault Damaged InputFault refl refl e)) (λ e. absurd (apart is_disk_fault Damaged DiskFault refl refl e)) tt
        (λ octets h i names d e f an. let s = says h names e an in (name, broken, (ap is_ok (both_at before input.before (λ octets h. asked_in h octets ≡ Ok keywords) asked octets h d e), s.0), s.1, refl))

    -- the store or a dataset ends the search
    pub halted_ran : {A : Type 0} (keywords : List Keyword) → Asks keywords → (stop : Stop A) → ToldStop stop result report.before report.now report.faults_before report.faults_now → OfDataset stop → IfSome before (λ h. (names : List (List ℕ)) → AreNames h names → IsBrokenOf stop h names) → OnDisk stop (Rose sm sn) → Out
    halted_ran keywords asked (stops.Disk f) told of says disk = disk_ran told disk
    halted_ran keywords asked stops.Input told of says disk = absurd of
    halted_ran keywords asked stops.Missing told of says disk = absurd of
    halted_ran keywords asked (stops.Schema line kind) told of says disk = absurd of
    halted_ran keywords asked (stops.Request at kind) told of says disk = absurd of
    halted_ran keywords asked (stops.NoRule text) told of says disk = absurd of
    halted_ran keywords asked (stops.NoLayer layer text) told of says disk = absurd of
    halted_ran keywords asked stops.TooMany told of says disk = absurd of
    halted_ran {A = A} keywords asked (stops.Broken dataset broken) told of says disk = elim told as (λ _. Out) [
      | inl t ↦ broken_ran keywords asked (string_bytes dataset) (seen_broken broken)
          (λ h names e an. let b = subst (λ o. IfSome o (λ h. (names : List (List ℕ)) → AreNames h names → IsBrokenOf {F = A} (stops.Broken dataset broken) h names)) e says names an in (contains_among names (string_bytes dataset) b.0, b.1)) t
      | inr t ↦ starved_ran t
    ]
    halted_ran keywords asked stops.NoMemory told of says disk = starved_ran told

    -- ---- what is refused

    refused_ends : (octets : List ℕ) (h i : Holdings) (names : List (List ℕ)) (cause : Cause) → CubesTo h names octets (refused cause) → ToldAs (telling cause).status (telling cause).line → ComesTo octets h i names
    refused_ends octets h i names cause to told = inl (
      refused cause,
      to,
      subst (λ b. Ends F result (Some (refused cause)) (lines_early []) (T h i names octets) output.before b report.before report.now) (sym nothing)
          (ends_with_line F output.before report.before report.now (lines_early []) (T h i names octets) (refused cause) result report.faults_before report.faults_now (cause_told cause) refl (λ r. r) told),
    )

    pub refused_ran : (cause : Cause) → Each (λ octets h i names. CubesTo h names octets (refused cause)) → IsCalm input → IsCalm output → ToldAs (telling cause).status (telling cause).line → Out
    refused_ran cause says calm_in calm_out told =
        told_ran (telling cause).status (telling cause).line told
        (by_cause (λ s. is_words s ≡ false) refl refl refl cause) (by_cause (λ s. is_output_fault s ≡ false) refl refl refl cause) (by_cause (λ s. is_whole s ≡ false) refl refl refl cause)
        (by_cause (λ s. s ≡ InputFault → Failed input) (λ e. absurd (apart is_input_fault Refused InputFault refl refl e)) (λ e. absurd (apart is_input_fault Damaged InputFault refl refl e)) (λ e. absurd (apart is_input_fault Limit InputFault refl refl e)) cause)
        (by_cause (λ s. s ≡ DiskFault → Failed S) (λ e. absurd (apart is_disk_fault Refused DiskFault refl refl e)) (λ e. absurd (apart is_disk_fault Damaged DiskFault refl refl e)) (λ e. absurd (apart is_disk_fault Limit DiskFault refl refl e)) cause)
        (cause_calm command input output report (calm_in, calm_out) cause)
        (λ octets h i names d e f an. refused_ends octets h i names cause (says octets h i names d e f an) told)

    either_ran : (cause : Cause) → Each (λ octets h i names. CubesTo h names octets (refused cause)) → IsCalm input → IsCalm output → ToldOrNoMemory (telling cause).status (telling cause).line result report.before report.now report.faults_before report.faults_now → Out
    either_ran cause says calm_in calm_out told = elim told as (λ _. Out) [ inl t ↦ refused_ran cause says calm_in calm_out t | inr t ↦ starved_ran t ]

    starved_ends : (octets : List ℕ) (h i : Holdings) (names : List (List ℕ)) → ToldAs NoMemory no_memory → ComesTo octets h i names
    starved_ends octets h i names told = inr (
      neither NoMemory result Done (either_of NoMemory result no_memory report.before report.now report.faults_before report.faults_now told) (apart is_whole NoMemory Done refl refl) (apart is_whole OutputFault Done refl refl),
      subst (λ b. Ends F result (Some (printed [])) (lines_early []) (T h i names octets) output.before b report.before report.now) (sym nothing)
          (ends_at_once F output.before report.before report.now (T h i names octets) (Some (printed [])) NoMemory result no_memory report.faults_before report.faults_now refl (λ r. r) told),
    )

    -- the stored schema is damaged, or passes a limit
    schema_ran : (line : ℕ) (kind : SchemaKind) → ToldSome result report.before report.now report.faults_before report.faults_now
        → ((text : List ℕ) (fault : schemas.Fault) → IsFirst text line kind fault → ToldOrNoMemory (telling (causes.InStored text fault)).status (telling (causes.InStored text fault)).line result report.before report.now report.faults_before report.faults_now)
        → Each (λ octets h i names. (text : List ℕ) × (fault : schemas.Fault) × IsFirst text line kind fault × CubesTo h names octets (refused (causes.InStored text fault))) → IsCalm input → IsCalm output → Out
    schema_ran line kind (s, text, which, told) told_if says calm_in calm_out =
        told_ran s text told
        (kind_of s which (λ s. is_words s ≡ false) refl refl refl) (kind_of s which (λ s. is_output_fault s ≡ false) refl refl refl) (kind_of s which (λ s. is_whole s ≡ false) refl refl refl)
        (kind_of s which (λ s. s ≡ InputFault → Failed input) (λ e. absurd (apart is_input_fault Damaged InputFault refl refl e)) (λ e. absurd (apart is_input_fault Limit InputFault refl refl e)) (λ e. absurd (apart is_input_fault NoMemory InputFault refl refl e)))
        (kind_of s which (λ s. s ≡ DiskFault → Failed S) (λ e. absurd (apart is_disk_fault Damaged DiskFault refl refl e)) (λ e. absurd (apart is_disk_fault Limit DiskFault refl refl e)) (λ e. absurd (apart is_disk_fault NoMemory DiskFault refl refl e)))
        (kind_of s which (λ s. Calm command s input output report) tt (inl (calm_in, calm_out)) tt)
        (λ octets h i names d e f an.
        let x = says octets h i names d e f an in
        elim (told_if x.0 x.1 x.2) as (λ _. ComesTo octets h i names) [ inl t ↦ refused_ends octets h i names (causes.InStored x.0 x.1) x.3 t | inr t ↦ starved_ends octets h i names t ])
      where
        kind_of : (s : Status) → (s ≡ Damaged) ⊎ ((s ≡ Limit) ⊎ (s ≡ NoMemory)) → (P : Status → Type 0) → P Damaged → P Limit → P NoMemory → P s
        kind_of s (inl e) P d l n = subst P (sym e) d
        kind_of s (inr (inl e)) P d l n = subst P (sym e) l
        kind_of s (inr (inr e)) P d l n = subst P (sym e) n

    -- why no key is looked for
    pub stopped_ran : {A : Type 0} (stop : Stop A) → ToldStop stop result report.before report.now report.faults_before report.faults_now → IsEarly stop
        → ((octets : List ℕ) (h : Holdings) → input.before ≡ Some octets → before ≡ Some h → Refuses stop (λ cause. asked_in h octets ≡ Err cause))
        → OnInput stop (Failed input) → OnDisk stop (Rose sm sn) → OnRefusal stop (IsCalm input) → IsCalm output → Out
    stopped_ran (stops.Disk f) told soon says rose disk calm calm_out = disk_ran told disk
    stopped_ran stops.Input told soon says rose disk calm calm_out = input_ran told rose
    stopped_ran stops.Missing told soon says rose disk calm calm_out = either_ran causes.SchemaMissing (λ octets h i names d e f an. IsRefused causes.SchemaMissing (says octets h d e) refl) calm calm_out told
    stopped_ran (stops.Schema line kind) told soon says rose disk calm calm_out =
        schema_ran line kind told.0 told.1 (λ octets h i names d e f an. let x = says octets h d e in (x.0, x.1, x.2, IsRefused (causes.InStored x.0 x.1) x.3 refl)) calm calm_out
    stopped_ran (stops.Request at kind) told soon says rose disk calm calm_out =
        either_ran (causes.InRequest (record { at = at; kind = seen_kind kind })) (λ octets h i names d e f an. IsRefused (causes.InRequest (record { at = at; kind = seen_kind kind })) (says octets h d e) refl) calm calm_out told
    stopped_ran (stops.NoRule text) told soon says rose disk calm calm_out = absurd soon
    stopped_ran (stops.NoLayer layer text) told soon says rose disk calm calm_out = absurd soon
    stopped_ran stops.TooMany told soon says rose disk calm calm_out = absurd soon
    stopped_ran (stops.Broken dataset broken) told soon says rose disk calm calm_out = absurd soon
    stopped_ran stops.NoMemory told soon says rose disk calm calm_out = starved_ran told

  -- ---- what becomes of the keys that were found

  -- lines were written, or a front of them
  lines_ran : (lines : List (List ℕ)) → AreWell → IsCalm input → ReadsOut command input.before input.now → Each (λ octets h i names. CubesTo h names octets (printed (text_lines lines))) → ToldLines result output report lines → Out
  lines_ran lines well calm_in read to (AreWritten is took calm quiet) =
      ran_by (λ octets h i names d e f an. inl (
        printed (text_lines lines),
        to octets h i names d e f an,
        subst (λ s. EndsBy octets h i names s (printed (text_lines lines)) (lines_early (text_lines lines))) (sym is)
            (record { status = refl; output = took; report = subst (λ r. Takes report.before r []) (sym quiet) (takes_nothing report.before) }),
      ))
      (λ done. well)
      (λ e. apart is_words Done Words refl refl (sym is ∙ e)) (λ e. absurd (apart is_input_fault Done InputFault refl refl (sym is ∙ e))) (λ e. absurd (apart is_output_fault Done OutputFault refl refl (sym is ∙ e))) (λ e. absurd (apart is_disk_fault Done DiskFault refl refl (sym is ∙ e)))
      (subst (λ y. Calm command y input output report) (sym is) (calm_in, calm)) (λ w. read)
  lines_ran lines well calm_in read to (AreStarved front calm told) =
      told_ran NoMemory no_memory told refl refl refl (λ e. absurd (apart is_input_fault NoMemory InputFault refl refl e)) (λ e. absurd (apart is_disk_fault NoMemory DiskFault refl refl e)) tt
      (λ octets h i names d e f an. inl (
        printed (text_lines lines),
        to octets h i names d e f an,
        ends_early F output.before output.now report.before report.before report.now (lines_early (text_lines lines)) (T h i names octets) (Some (printed (text_lines lines))) NoMemory result no_memory [] report.faults_before report.faults_now
            ([], sym (append-nil (text_lines lines))) refl (record { output = front; rest = []; is = refl; report = takes_nothing report.before }) (λ r. r) told,
      ))
  lines_ran lines well calm_in read to (AreUnwritten front failed told) =
      let so : result ≡ OutputFault = elim told.told as (λ _. result ≡ OutputFault) [ inl x ↦ x.status | inr x ↦ x.status ] in
      ran_by (λ octets h i names d e f an. inl (
        printed (text_lines lines),
        to octets h i names d e f an,
        ends_unwritten F output.before output.now report.before report.before report.now (lines_early (text_lines lines)) (T h i names octets) (Some (printed (text_lines lines))) result [] report.faults_before report.faults_now
            front failed (record { rest = []; is = refl; report = takes_nothing report.before }) (λ r. r) told,
      ))
      (λ done. absurd (apart is_whole OutputFault Done refl refl (sym so ∙ done)))
      (λ e. apart is_words OutputFault Words refl refl (sym so ∙ e)) (λ e. absurd (apart is_input_fault OutputFault InputFault refl refl (sym so ∙ e))) (λ e. inl failed) (λ e. absurd (apart is_disk_fault OutputFault DiskFault refl refl (sym so ∙ e)))
      (subst (λ y. Calm command y input output report) (sym so) tt)
      (λ w. absurd (elim w as (λ _. ⊥) [ inl x ↦ apart is_whole OutputFault Done refl refl (sym so ∙ x) | inr x ↦ apart is_whole OutputFault Missed refl refl (sym so ∙ x) ]))

  module _ (keywords : List Keyword) (kept : Keys) (asked : IfSome before (λ h. IfSome input.before (λ octets. asked_in h octets ≡ Ok keywords))) (calm_in : IsCalm input) (read : ReadsOut command input.before input.now)
      (sound : IfSome before (λ h. (names : List (List ℕ)) → AreNames h names → NoneIsDamaged h names)) (finds : IfSome before (λ h. (names : List (List ℕ)) → AreNames h names → FindsAll keywords h names kept)) where
    asked_at : (octets : List ℕ) (h : Holdings) → input.before ≡ Some octets → before ≡ Some h → asked_in h octets ≡ Ok keywords
    asked_at octets h d e = both_at before input.before (λ octets h. asked_in h octets ≡ Ok keywords) asked octets h d e

    finds_at : (h : Holdings) (names : List (List ℕ)) → before ≡ Some h → AreNames h names → FindsAll keywords h names kept
    finds_at h names e an = store_at before (λ h. (names : List (List ℕ)) → AreNames h names → FindsAll keywords h names kept) finds h e names an

    refuses_keys : (cause : Cause) → keys_refusal kept ≡ Some cause → Each (λ octets h i names. CubesTo h names octets (refused cause))
    refuses_keys cause is octets h i names d e f an =
        let c = chosen keywords h names kept (Some cause) (finds_at h names e an) is in
        HasRefused keywords (asked_at octets h d e) c.keys c.are cause c.refusal refl

    prints : keys_refusal kept ≡ None → (lines : List (List ℕ)) → AreCubes kept lines → Each (λ octets h i names. CubesTo h names octets (printed (text_lines lines)))
    prints none lines cubes octets h i names d e f an =
        HasPrinted keywords (asked_at octets h d e) kept (all_kept keywords h names kept (finds_at h names e an) none) none lines cubes refl

    well : AreWell
    well octets h i names d e f an = λ name opens. undamaged_at h names (store_at before (λ h. (names : List (List ℕ)) → AreNames h names → NoneIsDamaged h names) sound h e names an) name opens.1

    pub keys_ran : ToldKeys result output report kept → Out
    keys_ran (KeysRefused cause is nothing calm told) = refused_ran nothing cause (refuses_keys cause is) calm_in calm told
    keys_ran (KeysStarved nothing calm told) = starved_ran nothing told
    keys_ran (KeysPrinted none lines cubes told) = lines_ran lines well calm_in read (prints none lines cubes) told
