-- The exits of `purge` and `wipe`.
use Rattle.std.proofs.Common.{◌≡◌, ◌∙◌, ◌≤◌, ℕ, Bool, true, false, List, [], Option, Some, None, refl, sym, ap, subst, inl, inr}
use Rattle.std.specs.Prelude.{◌⊎◌, IfSome, Result, Ok, Err}
use Rattle.fd_bytes.specs.Causes.{Rose}
use Rattle.fd_io.specs.Streams.{Takes}
use Rattle.fd_disk.specs.Folders.{Contents, Holdings, WhereTold, folder_at}
use Rattle.fd_schema.specs.Grammar as schemas
use Rattle.fd_schema.specs.Reading.{IsFirst}
use Rattle.fd_schema.specs.declared.fault.SchemaKind.{SchemaKind}
use Rattle.fd_words.specs.declared.command.Command.{Command}
use Rattle.fd_words.specs.declared.command.Command.TheVariants as commands
use Rattle.fd_stored.specs.declared.status.Status.{Status}
use Rattle.fd_stored.specs.declared.status.Status.TheVariants.{Done, Missed, Words, Refused, InputFault, OutputFault, DiskFault, NoMemory, Damaged, Limit}
use Rattle.fd_outcome.specs.Asking.{rules_of}
use Rattle.fd_stored.specs.Causes as causes
use Rattle.fd_stored.specs.Causes.{Broken, Cause, damaged_line, table_full, telling}
use Rattle.fd_outcome.specs.Ends.{Calm, Ends, IsBroken, Leaves, Opens, ReadsOut, UsesStore, disk_failed, no_memory, troubles}
use Rattle.fd_outcome.specs.Objects.{Failed, Failures, Object, failures, object}
use Rattle.fd_outcome.specs.Outcome.{Early, Outcome, early, nothing_early, outcome, reclaimed, refused, reported}
use Rattle.fd_outcome.specs.Ran.{Ran}
use Rattle.fd_outcome.specs.Reclaiming.{InDataset, LeavesReclaimed, PurgeDone, PurgeUnderWay, WipeDone, WipeUnderWay, purge_told, wipe_told}
use Rattle.fd_stored.specs.Store.{AreNames, Stands}
use Rattle.fd_outcome.specs.Told.{Told, ToldOrNoMemory}
use Rattle.fd_outcome.proofs.AnyCommand.{Seen, told_of}
use Rattle.fd_outcome.proofs.Endings.{CanStop, CanTell, ends_at_once, ends_with_line}
use Rattle.fd_outcome.proofs.Exits.{apart, cause_told, is_disk_fault, is_input_fault, is_output_fault, is_whole, is_words, never_whole}
use Rattle.fd_telling.specs.Stops.{ToldSome, seen_broken}
use Rattle.fd_telling.proofs.StopLemmas.{rose_later}
use Rattle.fd_reclaim.specs.declared.halt.Halt.{Halt}
use Rattle.fd_reclaim.specs.declared.halt.Halt.TheVariants as halts
use Rattle.fd_reclaim.specs.Halts.{LeavesHalted, OnDisk, Says, ToldHalt}
use Rattle.fd_reclaim.proofs.Leaving.{dataset_map, purge_idle, purged_left, told_map, wipe_idle, wiped_left}

-- What either of the two commands is: what it makes of the store, and what it leaves of the dataset that it names, once that is
-- done and on the way.
pub record Acts (command : Command) (dataset : List ℕ) (made : Holdings → Option Outcome) (done way : Contents → Contents → Type 0) : Type 1 where
  pub uses : UsesStore command
  pub made_is : (h : Holdings) (names : List (List ℕ)) (octets : List ℕ) → outcome command h names octets ≡ made h
  pub early_is : (h : Holdings) (names : List (List ℕ)) (octets : List ℕ) → early command h names octets ≡ nothing_early
  pub opens : (h : Holdings) (names : List (List ℕ)) (octets : List ℕ) → Opens command h names octets dataset
  pub broken_is : (h i : Holdings) (broken : Broken) → Stands dataset (folder_at h dataset) broken → IsBroken command h i dataset broken
  pub leaves : (s : Status) (calm full : Type 0) (input left : Option (List ℕ)) (h i : Holdings) → InDataset dataset (LeavesReclaimed done way s) h i → Leaves command s calm full input left h i
  pub unread : (before : Option (List ℕ)) → ReadsOut command before before
  pub idle : (v : Contents) → way v v
  pub done_way : (v w : Contents) → done v w → way v w

pub purge_acts : (root dataset : List ℕ) → Acts (commands.Purge root dataset) dataset (λ h. reclaimed (rules_of h.schema) (purge_told dataset (folder_at h dataset))) (PurgeDone dataset) (PurgeUnderWay dataset)
purge_acts root dataset = record {
  uses = tt;
  made_is = λ h names octets. refl;
  early_is = λ h names octets. refl;
  opens = λ h names octets. refl;
  broken_is = λ h i broken x. x;
  leaves = λ s calm full input left h i x. x;
  unread = λ before. refl;
  idle = purge_idle dataset;
  done_way = purged_left dataset;
}

pub wipe_acts : (root dataset : List ℕ) → Acts (commands.Wipe root dataset) dataset (λ h. reclaimed (rules_of h.schema) (wipe_told dataset (folder_at h dataset))) (WipeDone dataset) (WipeUnderWay dataset)
wipe_acts root dataset = record {
  uses = tt;
  made_is = λ h names octets. refl;
  early_is = λ h names octets. refl;
  opens = λ h names octets. refl;
  broken_is = λ h i broken x. x;
  leaves = λ s calm full input left h i x. x;
  unread = λ before. refl;
  idle = wipe_idle dataset;
  done_way = wiped_left dataset;
}

module _ (command : Command) (dataset : List ℕ) (made : Holdings → Option Outcome) (done way : Contents → Contents → Type 0) (act : Acts command dataset made done way)
    (before now : Option Holdings) (sm sn : ℕ) (read : Option (List ℕ)) (j : ℕ) (a : Option (List ℕ)) (k : ℕ) (report : Object (List ℕ)) (result : Status) where
  abbrev S : Object Holdings
  S = object before now sm sn

  abbrev I : Object (List ℕ)
  I = object read read j j

  abbrev O : Object (List ℕ)
  O = object a a k k

  abbrev pub Out : Type 0
  Out = Ran command result S I O report

  abbrev F : Failures
  F = failures S I O report

  abbrev ToldAs : Status → List ℕ → Type 0
  ToldAs s text = Told s text result report.before report.now report.faults_before report.faults_now

  abbrev pub LeftSo : (Contents → Contents → Type 0) → Type 0
  LeftSo R = WhereTold before now (InDataset dataset R)

  abbrev LeftAs : Status → Type 0
  LeftAs s = LeftSo (LeavesReclaimed done way s)

  abbrev EndsSo : Holdings → Holdings → List (List ℕ) → List ℕ → Option Outcome → Early → Type 0
  EndsSo h i names octets o e = Ends F result o e (troubles command F h i names octets) a a report.before report.now

  ends_as : (h i : Holdings) (names : List (List ℕ)) (octets : List ℕ) → EndsSo h i names octets (outcome command h names octets) nothing_early → EndsSo h i names octets (outcome command h names octets) (early command h names octets)
  ends_as h i names octets e = subst (EndsSo h i names octets (outcome command h names octets)) (sym (act.early_is h names octets)) e

  left_by : (s : Status) → LeftAs s → WhereTold before now (Leaves command s (¬ (Failed S)) (Takes report.before report.now table_full) read read)
  left_by s left = told_map before now _ _ (λ h i x. act.leaves s (¬ (Failed S)) (Takes report.before report.now table_full) read read h i x) left

  left_told : (s : Status) (text : List ℕ) → ToldAs s text → LeftAs s → LeftAs OutputFault → WhereTold before now (Leaves command result (¬ (Failed S)) (Takes report.before report.now table_full) read read)
  left_told s text told own other = left_by result (elim told.told as (λ _. LeftAs result) [ inl x ↦ subst LeftAs (sym x.status) own | inr x ↦ subst LeftAs (sym x.status) other ])

  -- such a status with its line
  line_ran : (s : Status) (text : List ℕ) → ToldAs s text → LeftAs s → LeftSo way → is_words s ≡ false → is_output_fault s ≡ false → is_input_fault s ≡ false → (s ≡ DiskFault → Rose sm sn) → Calm command s I O report
      → ((octets : List ℕ) (h i : Holdings) (names : List (List ℕ)) → before ≡ Some h → EndsSo h i names octets (outcome command h names octets) nothing_early) → Out
  line_ran s text told own other words output_no input_no disk calm ends =
      told_of command act.uses S I O report result s text report.before report.faults_before report.faults_now told (λ r. r) words output_no (λ e. absurd (apart is_input_fault s InputFault input_no refl e)) disk (λ t. calm)
      (left_told s text told own other) (λ w. act.unread read) (λ octets h i names d e f an. ends_as h i names octets (ends octets h i names e))

  stop_ran : (s : Status) (text : List ℕ) → ToldAs s text → LeftAs s → LeftSo way → is_words s ≡ false → is_output_fault s ≡ false → is_input_fault s ≡ false → (s ≡ DiskFault → Rose sm sn) → Calm command s I O report
      → ((octets : List ℕ) (h i : Holdings) (names : List (List ℕ)) → before ≡ Some h → CanStop F (troubles command F h i names octets) s text) → Out
  stop_ran s text told own other words output_no input_no disk calm can =
      line_ran s text told own other words output_no input_no disk calm
      (λ octets h i names e. ends_at_once F a report.before report.now (troubles command F h i names octets) (outcome command h names octets) s result text report.faults_before report.faults_now (can octets h i names e) (λ r. r) told)

  memory_ran : ToldAs NoMemory no_memory → LeftSo way → Out
  memory_ran told left = stop_ran NoMemory no_memory told left left refl refl refl (λ e. absurd (apart is_disk_fault NoMemory DiskFault refl refl e)) tt (λ octets h i names e. refl)

  disk_ran : ToldAs DiskFault disk_failed → LeftSo way → Rose sm sn → Out
  disk_ran told left rose = stop_ran DiskFault disk_failed told left left refl refl refl (λ e. rose) tt (λ octets h i names e. (act.uses, rose, refl))

  broken_ran : (broken : Broken) → ToldAs Damaged (damaged_line dataset broken) → LeftSo way → ((h : Holdings) → before ≡ Some h → Stands dataset (folder_at h dataset) broken) → Out
  broken_ran broken told left stands =
      stop_ran Damaged (damaged_line dataset broken) told left left refl refl refl (λ e. absurd (apart is_disk_fault Damaged DiskFault refl refl e)) tt
      (λ octets h i names e. (dataset, broken, act.opens h names octets, act.broken_is h i broken (stands h e), refl))

  -- an outcome that is only a line
  told_ends : (o : Outcome) (octets : List ℕ) (h i : Holdings) (names : List (List ℕ)) → made h ≡ Some o → CanTell o.status → o.output ≡ [] → ToldAs o.status o.report → EndsSo h i names octets (outcome command h names octets) nothing_early
  told_ends o octets h i names is can empty told =
      subst (λ x. EndsSo h i names octets x nothing_early) (sym (act.made_is h names octets ∙ is))
      (ends_with_line F a report.before report.now nothing_early (troubles command F h i names octets) o result report.faults_before report.faults_now can empty (λ r. r) told)

  memory_ends : (octets : List ℕ) (h i : Holdings) (names : List (List ℕ)) → ToldAs NoMemory no_memory → EndsSo h i names octets (outcome command h names octets) nothing_early
  memory_ends octets h i names told = ends_at_once F a report.before report.now (troubles command F h i names octets) (outcome command h names octets) NoMemory result no_memory report.faults_before report.faults_now refl (λ r. r) told

  -- what was done is told
  done_ran : (text : List ℕ) → ((h : Holdings) → before ≡ Some h → made h ≡ Some (reported (Ok text))) → ToldAs Done text → LeftSo done → Out
  done_ran text is told left =
      line_ran Done text told left (dataset_map dataset done way act.done_way before now left) refl refl refl (λ e. absurd (apart is_disk_fault Done DiskFault refl refl e)) (refl, refl)
      (λ octets h i names e. told_ends (reported (Ok text)) octets h i names (is h e) tt refl told)

  pub ended : (text : List ℕ) → IfSome before (λ h. made h ≡ Some (reported (Ok text))) → LeftSo done → ToldOrNoMemory Done text result report.before report.now report.faults_before report.faults_now → Out
  ended text is left told = elim told as (λ _. Out) [
    | inl t ↦ done_ran text (λ h e. subst (λ o. IfSome o (λ h. made h ≡ Some (reported (Ok text)))) e is) t left
    | inr t ↦ memory_ran t (dataset_map dataset done way act.done_way before now left)
  ]

  -- a refusal leaves the dataset untouched
  same_way : LeftSo (λ v w. w ≡ v) → LeftSo way
  same_way left = dataset_map dataset (λ v w. w ≡ v) way (λ v w e. subst (way v) (sym e) (act.idle v)) before now left

  refused_ran : (cause : Cause) → (telling cause).status ≡ Refused → CanTell (telling cause).status → ((h : Holdings) → before ≡ Some h → made h ≡ Some (refused cause)) → ToldAs (telling cause).status (telling cause).line → LeftSo (λ v w. w ≡ v) → Out
  refused_ran cause so can is told left =
      line_ran Refused (telling cause).line (subst (λ s. ToldAs s (telling cause).line) so told) left (same_way left) refl refl refl (λ e. absurd (apart is_disk_fault Refused DiskFault refl refl e)) (refl, refl)
      (λ octets h i names e. told_ends (refused cause) octets h i names (is h e) can refl told)

  limit_ran : (cause : Cause) → (telling cause).status ≡ Limit → CanTell (telling cause).status → ((h : Holdings) → before ≡ Some h → made h ≡ Some (refused cause)) → ToldAs (telling cause).status (telling cause).line → LeftSo way → Out
  limit_ran cause so can is told left =
      line_ran Limit (telling cause).line (subst (λ s. ToldAs s (telling cause).line) so told) left left refl refl refl (λ e. absurd (apart is_disk_fault Limit DiskFault refl refl e)) (inl (refl, refl))
      (λ octets h i names e. told_ends (refused cause) octets h i names (is h e) can refl told)

  abbrev SchemaSays : ℕ → SchemaKind → Holdings → Type 0
  SchemaSays line kind h = (text : List ℕ) × (fault : schemas.Fault) × IsFirst text line kind fault × (made h ≡ Some (refused (causes.InStored text fault)))

  -- the stored schema is damaged, or passes a limit
  schema_ran : (line : ℕ) (kind : SchemaKind) → ToldSome result report.before report.now report.faults_before report.faults_now
      → ((text : List ℕ) (fault : schemas.Fault) → IsFirst text line kind fault → ToldOrNoMemory (telling (causes.InStored text fault)).status (telling (causes.InStored text fault)).line result report.before report.now report.faults_before report.faults_now)
      → ((h : Holdings) → before ≡ Some h → SchemaSays line kind h) → LeftSo way → Out
  schema_ran line kind (s, text, which, told) told_if says left =
      line_ran s text told (chosen LeftAs left left left) left (chosen (λ s. is_words s ≡ false) refl refl refl) (chosen (λ s. is_output_fault s ≡ false) refl refl refl) (chosen (λ s. is_input_fault s ≡ false) refl refl refl)
      (chosen (λ s. s ≡ DiskFault → Rose sm sn) (λ e. absurd (apart is_disk_fault Damaged DiskFault refl refl e)) (λ e. absurd (apart is_disk_fault Limit DiskFault refl refl e)) (λ e. absurd (apart is_disk_fault NoMemory DiskFault refl refl e)))
      (chosen (λ s. Calm command s I O report) tt (inl (refl, refl)) tt)
      (λ octets h i names e.
      let x = says h e in
      elim (told_if x.0 x.1 x.2) as (λ _. EndsSo h i names octets (outcome command h names octets) nothing_early) [
        | inl t ↦ told_ends (refused (causes.InStored x.0 x.1)) octets h i names x.3 (cause_told (causes.InStored x.0 x.1)) refl t
        | inr t ↦ memory_ends octets h i names t
      ])
    where
      by : (s : Status) → (s ≡ Damaged) ⊎ ((s ≡ Limit) ⊎ (s ≡ NoMemory)) → (P : Status → Type 0) → P Damaged → P Limit → P NoMemory → P s
      by s (inl e) P d l n = subst P (sym e) d
      by s (inr (inl e)) P d l n = subst P (sym e) l
      by s (inr (inr e)) P d l n = subst P (sym e) n

      chosen : (P : Status → Type 0) → P Damaged → P Limit → P NoMemory → P s
      chosen = by s which

  refused_or : (cause : Cause) → (telling cause).status ≡ Refused → ((h : Holdings) → before ≡ Some h → made h ≡ Some (refused cause)) → LeftSo (λ v w. w ≡ v)
      → ToldOrNoMemory (telling cause).status (telling cause).line result report.before report.now report.faults_before report.faults_now → Out
  refused_or cause so is left told = elim told as (λ _. Out) [ inl t ↦ refused_ran cause so (cause_told cause) is t left | inr t ↦ memory_ran t (same_way left) ]

  -- the command is ended by this
  halted_at : {A : Type 0} (halt : Halt A) → ToldHalt dataset halt result report.before report.now report.faults_before report.faults_now → ((h : Holdings) → before ≡ Some h → Says halt dataset h (made h)) → LeftSo (LeavesHalted halt way)
      → OnDisk halt (Rose sm sn) → Out
  halted_at (halts.Disk f) told says left disk = disk_ran told left disk
  halted_at halts.Missing told says left disk = refused_or causes.SchemaMissing refl says left told
  halted_at (halts.Schema line kind) told says left disk = schema_ran line kind told.0 told.1 says left
  halted_at halts.NoDataset told says left disk = refused_or causes.NoDataset refl says left told
  halted_at (halts.Damaged broken) told says left disk = elim told as (λ _. Out) [ inl t ↦ broken_ran (seen_broken broken) t left says | inr t ↦ memory_ran t left ]
  halted_at (halts.Writers entry writer) told says left disk = elim told as (λ _. Out) [ inl t ↦ limit_ran (causes.WriterTooGreat entry writer) refl (cause_told (causes.WriterTooGreat entry writer)) says t left | inr t ↦ memory_ran t left ]
  halted_at halts.NoMemory told says left disk = memory_ran told left

  pub halted : {A : Type 0} (halt : Halt A) → ToldHalt dataset halt result report.before report.now report.faults_before report.faults_now → IfSome before (λ h. Says halt dataset h (made h)) → LeftSo (LeavesHalted halt way)
      → OnDisk halt (Rose sm sn) → Out
  halted halt told says left disk = halted_at halt told (λ h e. subst (λ o. IfSome o (λ h. Says halt dataset h (made h))) e says) left disk

pub later_disk : {A : Type 0} (halt : Halt A) (m k n : ℕ) → m ≤ k → OnDisk halt (Rose k n) → OnDisk halt (Rose m n)
later_disk (halts.Disk f) m k n le on = rose_later m k n le on
later_disk halts.Missing m k n le on = tt
later_disk (halts.Schema line kind) m k n le on = tt
later_disk halts.NoDataset m k n le on = tt
later_disk (halts.Damaged broken) m k n le on = tt
later_disk (halts.Writers entry writer) m k n le on = tt
later_disk halts.NoMemory m k n le on = tt
