-- The exits of `retrieve` before the first key is answered.
use Rattle.std.proofs.Common.{◌≡◌, ℕ, false, List, [], ◌++◌, Option, Some, refl, sym, subst, ap, inl, inr, string_bytes}
use Rattle.std.specs.Prelude.{◌⊎◌, IfSome, codes}
use Rattle.fd_bytes.specs.Causes.{Rose}
use Rattle.fd_disk.specs.Folders.{Holdings, WhereTold, folder_at}
use Rattle.std.specs.Fmt.{decimal}
use Rattle.fd_listing.specs.Lines.{blank, line}
use Rattle.fd_key.specs.Pairs.{Pair, key_text}
use Rattle.fd_schema.specs.Grammar as schemas
use Rattle.fd_schema.specs.Reading.{IsFirst}
use Rattle.fd_schema.specs.declared.fault.SchemaKind.{SchemaKind}
use Rattle.fd_request.specs.Reading.{seen_kind}
use Rattle.fd_words.specs.declared.command.Command.{Command}
use Rattle.fd_stored.specs.declared.status.Status.{Status}
use Rattle.fd_stored.specs.declared.status.Status.TheVariants.{Done, Missed, Refused, InputFault, DiskFault, NoMemory, Damaged, Limit}
use Rattle.fd_stored.specs.Causes.{Cause, damaged_line, telling}
use Rattle.fd_stored.specs.Causes as causes
use Rattle.fd_outcome.specs.Ends.{Calm, Ends, Opens, disk_failed, input_failed, no_memory, troubles}
use Rattle.fd_outcome.specs.Objects.{Failed, Failures, IsCalm, Object, failures, object}
use Rattle.fd_outcome.specs.Outcome.{Outcome, early, outcome, refused}
use Rattle.fd_outcome.specs.Ran.{Ran}
use Rattle.fd_stored.specs.Store.{IsLookedThrough, Stands}
use Rattle.fd_outcome.specs.Told.{Told, ToldOrNoMemory}
use Rattle.fd_outcome.proofs.Endings.{CanStop, ends_early, ends_told, reached_nothing, takes_nothing}
use Rattle.fd_outcome.proofs.Exits.{apart, by_cause, cause_calm, cause_not_whole, cause_told, is_disk_fault, is_input_fault, is_output_fault, is_whole, is_words, never_whole}
use Rattle.fd_outcome.proofs.Starved.{within}
use Rattle.fd_telling.specs.declared.stop.Stop.{Stop}
use Rattle.fd_telling.specs.declared.stop.Stop.TheVariants as stops
use Rattle.fd_telling.specs.Stops.{OnDisk, OnInput, OnRefusal, Says, ToldSome, ToldStop, seen_broken}
use Rattle.fd_retrieve.specs.Commands.{retrieving}
use Rattle.fd_retrieve.proofs.RetrieveExits.{broken_is, either_not_whole, told_by, told_not_whole, uses}

module _ (root : List ℕ) (over : Option (List (List Pair))) (workers : ℕ) (Is : Holdings → List ℕ → Cause → Type 0) (Among : Holdings → List ℕ → List ℕ → Type 0)
    (refuses : (h : Holdings) (names : List (List ℕ)) (octets : List ℕ) (cause : Cause) → Is h octets cause → outcome (retrieving root over workers) h names octets ≡ Some (refused cause))
    (opens : (h : Holdings) (names : List (List ℕ)) (octets name : List ℕ) → Among h octets name → Opens (retrieving root over workers) h names octets name) (before now : Option Holdings) (sm sn : ℕ) (input : Object (List ℕ)) (a : Option (List ℕ)) (k : ℕ) (report : Object (List ℕ)) (result : Status) (looks : WhereTold before now IsLookedThrough) where
  abbrev One : Command
  One = retrieving root over workers

  abbrev pub Out : Type 0
  Out = Ran One result (object before now sm sn) input (object a a k k) report

  abbrev Fs : Failures
  Fs = failures (object before now sm sn) input (object a a k k) report

  abbrev ToldAs : Status → List ℕ → Type 0
  ToldAs s text = Told s text result report.before report.now report.faults_before report.faults_now

  abbrev EndsAs : Holdings → Holdings → List (List ℕ) → List ℕ → Option Outcome → Type 0
  EndsAs h i names octets o = Ends Fs result o (early One h names octets) (troubles One Fs h i names octets) a a report.before report.now

  abbrev Reads : Type 0
  Reads = IfSome input.before (λ octets. input.now ≡ Some [])

  -- such a status ends it
  early_ran : (s : Status) (text : List ℕ) → ToldAs s text → is_words s ≡ false → is_output_fault s ≡ false → (s ≡ InputFault → Failed input) → is_whole s ≡ false → (s ≡ DiskFault → Rose sm sn) → Calm One s input (object a a k k) report
      → ((octets : List ℕ) (h i : Holdings) (names : List (List ℕ)) → input.before ≡ Some octets → before ≡ Some h → CanStop Fs (troubles One Fs h i names octets) s text) → Out
  early_ran s text told words output_no input_fault whole disk calm can =
      told_by root over workers (object before now sm sn) input (object a a k k) report result looks s text report.before report.faults_before report.faults_now told (λ r. r) words output_no input_fault disk calm (never_whole Reads s whole)
      (λ octets h i names e f. ends_early Fs a a report.before report.before report.now (early One h names octets) (troubles One Fs h i names octets) (outcome One h names octets) s result text [] report.faults_before report.faults_now
      (within h names octets One) (can octets h i names e f) (reached_nothing a report.before (early One h names octets)) (λ r. r) told)

  memory_ran : ToldAs NoMemory no_memory → Out
  memory_ran told = early_ran NoMemory no_memory told refl refl (λ e. absurd (apart is_input_fault NoMemory InputFault refl refl e)) refl (λ e. absurd (apart is_disk_fault NoMemory DiskFault refl refl e)) tt (λ octets h i names e f. refl)

  disk_ran : ToldAs DiskFault disk_failed → Rose sm sn → Out
  disk_ran told rose = early_ran DiskFault disk_failed told refl refl (λ e. absurd (apart is_input_fault DiskFault InputFault refl refl e)) refl (λ e. rose) tt (λ octets h i names e f. (uses root over workers, rose, refl))

  input_ran : ToldAs InputFault input_failed → Failed input → Out
  input_ran told rose = early_ran InputFault input_failed told refl refl (λ e. rose) refl (λ e. absurd (apart is_disk_fault InputFault DiskFault refl refl e)) tt (λ octets h i names e f. (rose, refl))

  broken_ran : (name : List ℕ) (broken : causes.Broken) → IfSome before (λ h. IfSome input.before (λ octets. Among h octets name × Stands name (folder_at h name) broken)) → ToldAs Damaged (damaged_line name broken) → Out
  broken_ran name broken says told = early_ran Damaged (damaged_line name broken) told refl refl (λ e. absurd (apart is_input_fault Damaged InputFault refl refl e)) refl (λ e. absurd (apart is_disk_fault Damaged DiskFault refl refl e)) tt
      (λ octets h i names e f.
      let s = subst (λ q. IfSome q (λ octets. Among h octets name × Stands name (folder_at h name) broken)) e (subst (λ q. IfSome q (λ h. IfSome input.before (λ octets. Among h octets name × Stands name (folder_at h name) broken))) f says) in
      (name, broken, opens h names octets name s.0, broken_is root over workers h i name broken s.1, refl))

  -- a refusal
  refused_ran : (cause : Cause) → IfSome before (λ h. IfSome input.before (λ octets. Is h octets cause)) → IsCalm input → ToldAs (telling cause).status (telling cause).line → Out
  refused_ran cause says calm told =
      let s = (telling cause).status in
      told_by root over workers (object before now sm sn) input (object a a k k) report result looks s (telling cause).line report.before report.faults_before report.faults_now told (λ r. r)
      (by_cause (λ s. is_words s ≡ false) refl refl refl cause) (by_cause (λ s. is_output_fault s ≡ false) refl refl refl cause)
      (by_cause (λ s. s ≡ InputFault → Failed input) (λ e. absurd (apart is_input_fault Refused InputFault refl refl e)) (λ e. absurd (apart is_input_fault Damaged InputFault refl refl e)) (λ e. absurd (apart is_input_fault Limit InputFault refl refl e)) cause)
      (by_cause (λ s. s ≡ DiskFault → Rose sm sn) (λ e. absurd (apart is_disk_fault Refused DiskFault refl refl e)) (λ e. absurd (apart is_disk_fault Damaged DiskFault refl refl e)) (λ e. absurd (apart is_disk_fault Limit DiskFault refl refl e)) cause)
      (cause_calm One input (object a a k k) report (calm, refl) cause) (cause_not_whole Reads cause)
      (λ octets h i names e f.
      let q = subst (λ x. IfSome x (λ octets. Is h octets cause)) e (subst (λ x. IfSome x (λ h. IfSome input.before (λ octets. Is h octets cause))) f says) in
      subst (EndsAs h i names octets) (sym (refuses h names octets cause q))
      (ends_told Fs a a report.before report.before report.now (early One h names octets) (troubles One Fs h i names octets) (refused cause) result (telling cause).line [] report.faults_before report.faults_now (cause_told cause) refl (takes_nothing a) (takes_nothing report.before) (λ r. r) told))

  either_ran : (cause : Cause) → IfSome before (λ h. IfSome input.before (λ octets. Is h octets cause)) → IsCalm input → ToldOrNoMemory (telling cause).status (telling cause).line result report.before report.now report.faults_before report.faults_now → Out
  either_ran cause says calm told = elim told as (λ _. Out) [ inl t ↦ refused_ran cause says calm t | inr t ↦ memory_ran t ]

  abbrev SaysSo : {F : Type 0} → Stop F → Type 0
  SaysSo stop = IfSome before (λ h. IfSome input.before (λ octets. Says stop h (Is h octets) (Among h octets)))

  -- what is told of a cause ends the run so
  told_ends : (octets : List ℕ) (h i : Holdings) (names : List (List ℕ)) (cause : Cause) → Is h octets cause → ToldAs (telling cause).status (telling cause).line → EndsAs h i names octets (outcome One h names octets)
  told_ends octets h i names cause q told =
      subst (EndsAs h i names octets) (sym (refuses h names octets cause q))
      (ends_told Fs a a report.before report.before report.now (early One h names octets) (troubles One Fs h i names octets) (refused cause) result (telling cause).line [] report.faults_before report.faults_now (cause_told cause) refl (takes_nothing a) (takes_nothing report.before) (λ r. r) told)

  memory_ends : (octets : List ℕ) (h i : Holdings) (names : List (List ℕ)) → ToldAs NoMemory no_memory → EndsAs h i names octets (outcome One h names octets)
  memory_ends octets h i names told = ends_early Fs a a report.before report.before report.now (early One h names octets) (troubles One Fs h i names octets) (outcome One h names octets) NoMemory result no_memory [] report.faults_before report.faults_now
      (within h names octets One) refl (reached_nothing a report.before (early One h names octets)) (λ r. r) told

  abbrev KeySays : List ℕ → Holdings → List ℕ → Type 0
  KeySays text h octets = (key : List Pair) × (Is h octets (causes.NoRule key)) × (text ≡ key_text key)

  -- no rule admits a key
  no_rule_ran : (text : List ℕ) → IfSome before (λ h. IfSome input.before (λ octets. KeySays text h octets)) → IsCalm input → ToldAs Refused (line (codes "refused NoRule " ++ text)) → Out
  no_rule_ran text says calm told =
      told_by root over workers (object before now sm sn) input (object a a k k) report result looks Refused (line (codes "refused NoRule " ++ text)) report.before report.faults_before report.faults_now told (λ r. r) refl refl (λ e. absurd (apart is_input_fault Refused InputFault refl refl e)) (λ e. absurd (apart is_disk_fault Refused DiskFault refl refl e))
      (calm, refl) (never_whole Reads Refused refl)
      (λ octets h i names e f.
      let s = subst (λ q. IfSome q (λ octets. KeySays text h octets)) e (subst (λ q. IfSome q (λ h. IfSome input.before (λ octets. KeySays text h octets))) f says) in
      told_ends octets h i names (causes.NoRule s.0) s.1 (subst (λ t. ToldAs Refused (line (codes "refused NoRule " ++ t))) s.2 told))

  abbrev LayerSays : ℕ → List ℕ → Holdings → List ℕ → Type 0
  LayerSays layer text h octets = (key : List Pair) × Is h octets (causes.NoLayer layer key) × (text ≡ key_text key)

  -- a key has no place under a layer
  no_layer_ran : (layer : ℕ) (text : List ℕ) → IfSome before (λ h. IfSome input.before (λ octets. LayerSays layer text h octets)) → IsCalm input → ToldAs Refused (line (codes "refused Layer " ++ decimal layer ++ blank text)) → Out
  no_layer_ran layer text says calm told =
      told_by root over workers (object before now sm sn) input (object a a k k) report result looks Refused (line (codes "refused Layer " ++ decimal layer ++ blank text)) report.before report.faults_before report.faults_now told (λ r. r) refl refl (λ e. absurd (apart is_input_fault Refused InputFault refl refl e)) (λ e. absurd (apart is_disk_fault Refused DiskFault refl refl e))
      (calm, refl) (never_whole Reads Refused refl)
      (λ octets h i names e f.
      let s = subst (λ q. IfSome q (λ octets. LayerSays layer text h octets)) e (subst (λ q. IfSome q (λ h. IfSome input.before (λ octets. LayerSays layer text h octets))) f says) in
      told_ends octets h i names (causes.NoLayer layer s.0) s.1 (subst (λ t. ToldAs Refused (line (codes "refused Layer " ++ decimal layer ++ blank t))) s.2 told))

  abbrev SchemaSays : ℕ → SchemaKind → Holdings → List ℕ → Type 0
  SchemaSays line kind h octets = (text : List ℕ) × (fault : schemas.Fault) × (Is h octets (causes.InStored text fault)) × IsFirst text line kind fault

  -- the stored schema is damaged, or passes a limit
  schema_ran : (line : ℕ) (kind : SchemaKind) → ToldSome result report.before report.now report.faults_before report.faults_now
      → ((text : List ℕ) (fault : schemas.Fault) → IsFirst text line kind fault → ToldOrNoMemory (telling (causes.InStored text fault)).status (telling (causes.InStored text fault)).line result report.before report.now report.faults_before report.faults_now)
      → IfSome before (λ h. IfSome input.before (λ octets. SchemaSays line kind h octets)) → IsCalm input → Out
  schema_ran line kind (s, text, which, told) told_if says calm =
      told_by root over workers (object before now sm sn) input (object a a k k) report result looks s text report.before report.faults_before report.faults_now told (λ r. r)
      (chosen s which (λ s. is_words s ≡ false) refl refl refl) (chosen s which (λ s. is_output_fault s ≡ false) refl refl refl)
      (chosen s which (λ s. s ≡ InputFault → Failed input) (λ e. absurd (apart is_input_fault Damaged InputFault refl refl e)) (λ e. absurd (apart is_input_fault Limit InputFault refl refl e)) (λ e. absurd (apart is_input_fault NoMemory InputFault refl refl e)))
      (chosen s which (λ s. s ≡ DiskFault → Rose sm sn) (λ e. absurd (apart is_disk_fault Damaged DiskFault refl refl e)) (λ e. absurd (apart is_disk_fault Limit DiskFault refl refl e)) (λ e. absurd (apart is_disk_fault NoMemory DiskFault refl refl e)))
      (chosen s which (λ s. Calm One s input (object a a k k) report) tt (inl (calm, refl)) tt)
      (chosen s which (λ s. ((s ≡ Done) ⊎ (s ≡ Missed)) → Reads) (never_whole Reads Damaged refl) (never_whole Reads Limit refl) (never_whole Reads NoMemory refl))
      (λ octets h i names e f.
      let x = subst (λ q. IfSome q (λ octets. SchemaSays line kind h octets)) e (subst (λ q. IfSome q (λ h. IfSome input.before (λ octets. SchemaSays line kind h octets))) f says) in
      elim (told_if x.0 x.1 x.3) as (λ _. EndsAs h i names octets (outcome One h names octets)) [ inl t ↦ told_ends octets h i names (causes.InStored x.0 x.1) x.2 t | inr t ↦ memory_ends octets h i names t ])
    where
      chosen : (s : Status) → (s ≡ Damaged) ⊎ ((s ≡ Limit) ⊎ (s ≡ NoMemory)) → (P : Status → Type 0) → P Damaged → P Limit → P NoMemory → P s
      chosen s (inl e) P d l n = subst P (sym e) d
      chosen s (inr (inl e)) P d l n = subst P (sym e) l
      chosen s (inr (inr e)) P d l n = subst P (sym e) n

  -- why a request isn't answered
  pub stopped : {F : Type 0} (stop : Stop F) → ToldStop stop result report.before report.now report.faults_before report.faults_now → SaysSo stop → OnInput stop (Failed input) → OnDisk stop (Rose sm sn) → OnRefusal stop (IsCalm input) → Out
  stopped (stops.Disk f) told says rose disk calm = disk_ran told disk
  stopped stops.Input told says rose disk calm = input_ran told rose
  stopped stops.Missing told says rose disk calm = either_ran causes.SchemaMissing says calm told
  stopped (stops.Schema line kind) told says rose disk calm = schema_ran line kind told.0 told.1 says calm
  stopped (stops.Request at kind) told says rose disk calm = either_ran _ says calm told
  stopped (stops.NoRule text) told says rose disk calm = elim told as (λ _. Out) [ inl t ↦ no_rule_ran (string_bytes text) says calm t | inr t ↦ memory_ran t ]
  stopped (stops.NoLayer layer text) told says rose disk calm = elim told as (λ _. Out) [ inl t ↦ no_layer_ran layer (string_bytes text) says calm t | inr t ↦ memory_ran t ]
  stopped stops.TooMany told says rose disk calm = either_ran causes.TooManyDatasets says calm told
  stopped (stops.Broken dataset broken) told says rose disk calm = elim told as (λ _. Out) [ inl t ↦ broken_ran (string_bytes dataset) (seen_broken broken) says t | inr t ↦ memory_ran t ]
  stopped stops.NoMemory told says rose disk calm = memory_ran told

-- ---- a run that stops tells no status of a whole one

cause_unlike : (cause : Cause) (result : Status) (c d : Option (List ℕ)) (m n : ℕ) → ToldOrNoMemory (telling cause).status (telling cause).line result c d m n → is_whole result ≡ false
cause_unlike cause result c d m n told = either_not_whole (telling cause).status result (telling cause).line c d m n (by_cause (λ s. is_whole s ≡ false) refl refl refl cause) told

some_unlike : (result : Status) (c d : Option (List ℕ)) (m n : ℕ) → ToldSome result c d m n → is_whole result ≡ false
some_unlike result c d m n (s, text, which, told) = told_not_whole s result text c d m n (unlike_so which) told
  where
    unlike_so : (s ≡ Damaged) ⊎ ((s ≡ Limit) ⊎ (s ≡ NoMemory)) → is_whole s ≡ false
    unlike_so (inl e) = ap is_whole e
    unlike_so (inr (inl e)) = ap is_whole e
    unlike_so (inr (inr e)) = ap is_whole e

pub stop_not_whole : {F : Type 0} (stop : Stop F) (result : Status) (c d : Option (List ℕ)) (m n : ℕ) → ToldStop stop result c d m n → is_whole result ≡ false
stop_not_whole (stops.Disk f) result c d m n told = told_not_whole DiskFault result disk_failed c d m n refl told
stop_not_whole stops.Input result c d m n told = told_not_whole InputFault result input_failed c d m n refl told
stop_not_whole stops.Missing result c d m n told = cause_unlike causes.SchemaMissing result c d m n told
stop_not_whole (stops.Schema line kind) result c d m n told = some_unlike result c d m n told.0
stop_not_whole (stops.Request at kind) result c d m n told = cause_unlike (causes.InRequest (record { at = at; kind = seen_kind kind })) result c d m n told
stop_not_whole (stops.NoRule text) result c d m n told = either_not_whole Refused result _ c d m n refl told
stop_not_whole (stops.NoLayer layer text) result c d m n told = either_not_whole Refused result _ c d m n refl told
stop_not_whole stops.TooMany result c d m n told = cause_unlike causes.TooManyDatasets result c d m n told
stop_not_whole (stops.Broken dataset broken) result c d m n told = either_not_whole Damaged result _ c d m n refl told
stop_not_whole stops.NoMemory result c d m n told = told_not_whole NoMemory result no_memory c d m n refl told
