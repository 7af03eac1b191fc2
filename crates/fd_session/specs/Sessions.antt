-- What a session does: what each status tells of its input, of the store, and of what was written.
use Rattle.std.specs.Prelude.{◌≡◌, ◌⊎◌, ◌≤◌, ℕ, List, [], Option, Some, Ok, Err, IfSome, IsSome}
use Rattle.fd_disk.specs.Folders.{Holdings, WhereTold, folder_at}
use Rattle.fd_schema.specs.Rules.{Rule}
use Rattle.fd_words.specs.declared.command.Command.{Command}
use Rattle.fd_words.specs.declared.command.Command.TheVariants as commands
use Rattle.fd_script.specs.Grammar.{Wrong, script_of}
use Rattle.fd_script.specs.Reading.{wrong_at}
use Rattle.fd_script.specs.Scripts.{Scripted}
use Rattle.fd_lanes.specs.declared.end.End.{End}
use Rattle.fd_casting.specs.Miscasts.{IsFirst, NoneFails}
use Rattle.fd_casting.specs.Steps.{all_posed}
use Rattle.fd_casting.specs.declared.fault.Miscast.{Miscast}
use Rattle.fd_transcript.specs.Lines.{found_bytes}
use Rattle.fd_transcript.specs.Transcripts.{transcript_text}
use Rattle.fd_split.specs.declared.refusal.Refusal.{Refusal}
use Rattle.fd_stored.specs.declared.status.Status.{Status}
use Rattle.fd_stored.specs.declared.status.Status.TheVariants.{Done, Missed, Words, InputFault, OutputFault, DiskFault, NoMemory, Damaged, Limit}
use Rattle.fd_stored.specs.declared.status.Status.TheVariants as statuses
use Rattle.fd_outcome.specs.Asking.{rules_of}
use Rattle.fd_stored.specs.Causes.{Broken, Cause, Telling, damaged_line, telling}
use Rattle.fd_outcome.specs.Ends.{AreCalm, disk_failed, input_failed, no_memory}
use Rattle.fd_outcome.specs.Objects.{Object, Failed, IsCalm}
use Rattle.fd_objects.specs.Objects.{since, until}
use Rattle.fd_stored.specs.Refusals.{refusal_line, refusal_status}
use Rattle.fd_stored.specs.Sparing.{SparesDamaged}
use Rattle.fd_stored.specs.Store.{Stands, table_at}
use Rattle.fd_outcome.specs.Told.{ToldOrNoMemory}
use Rattle.fd_play.specs.Plays.{HoldsSame, LeavesUnplayed, Played}
use Rattle.fd_session.specs.Endings.{closing, count_faults}
use Rattle.fd_session.specs.Inputs.{IsInput, IsRefusedBehind}
use Rattle.fd_session.specs.Telling.{miscast_telling, script_telling}
use Rattle.fd_session.specs.Writes.{HasCounted, Writes}

-- The input is this script with these messages, and each of its steps can be done by the schema.
pub record Accepted (rules : List Rule) (input : List ℕ) (s : Scripted) (messages : List (List ℕ)) : Type 0 where
  pub read : IsInput input s messages
  pub done : NoneFails rules s.dataset messages (all_posed s.lanes)

-- the same, of some script and messages, by the store's schema
pub record IsAccepted (input : List ℕ) (h : Holdings) : Type 0 where
  pub rules : List Rule
  pub are : rules_of h.schema ≡ Ok rules
  pub script : Scripted
  pub messages : List (List ℕ)
  pub accepted : Accepted rules input script messages

-- Why no lane runs, in this order: the store's schema; the first line that is wrong in the script; the stream behind it; the
-- lowest line that can't be done with the messages; and then what is damaged in the script's dataset.
pub data Refused (h : Holdings) (input : List ℕ) (t : Telling) : Type 0 where
  BySchema : (cause : Cause) (is : rules_of h.schema ≡ Err cause) (tells : t ≡ telling cause) → Refused h input t
  ByScript : (rules : List Rule) (are : rules_of h.schema ≡ Ok rules) (line : ℕ) (wrong : Wrong) (is : script_of input ≡ wrong_at line wrong) (tells : t ≡ script_telling line wrong) → Refused h input t
  ByStream : (rules : List Rule) (are : rules_of h.schema ≡ Ok rules) (refusal : Refusal) (is : IsRefusedBehind input refusal) (tells : t ≡ record { status = refusal_status refusal; line = refusal_line refusal }) → Refused h input t
  ByLine : (rules : List Rule) (are : rules_of h.schema ≡ Ok rules) (s : Scripted) (messages : List (List ℕ)) (read : IsInput input s messages) (line : ℕ) (kind : Miscast)
      (is : IsFirst rules s.dataset messages (all_posed s.lanes) line kind) (tells : t ≡ miscast_telling line kind) → Refused h input t
  ByDamage : (rules : List Rule) (are : rules_of h.schema ≡ Ok rules) (s : Scripted) (messages : List (List ℕ)) (accepted : Accepted rules input s messages) (broken : Broken)
      (stands : Stands s.dataset (folder_at h s.dataset) broken) (tells : t ≡ record { status = Damaged; line = damaged_line s.dataset broken }) → Refused h input t

module _ (F : Type 0) (s : Status) (store : Object Holdings) (input output report : Object (List ℕ)) where
  abbrev pub Tells : Status → List ℕ → Type 0
  Tells status line = ToldOrNoMemory status line s report.before report.now report.faults_before report.faults_now

  -- The lanes ran: the script and the messages are those of the input, the report's text tells how the steps ended, and the
  -- status is theirs.
  pub record Runs (octets : List ℕ) (h i : Holdings) : Type 0 where
    pub rules : List Rule
    pub are : rules_of h.schema ≡ Ok rules
    pub script : Scripted
    pub messages : List (List ℕ)
    pub accepted : Accepted rules octets script messages
    pub before : ℕ
    pub ends : List (List (End F))
    pub played : Played rules messages script before ends h i
    pub writes : Writes (found_bytes ends) (transcript_text before script.lanes ends) (closing script.dataset ends) s
        output.before output.now output.faults_before output.faults_now report.before report.now report.faults_before report.faults_now
    pub counted : HasCounted (count_faults ends) store.faults_before store.faults_now

  -- No lane ran: nothing was written to the output, and at most a line to the report; the schema is as it was, and each dataset
  -- holds what it held. The store is as it was, unless the whole input was accepted, with each of its steps; then all but the
  -- script's dataset is, and a crash leaves of this one what a crash before may have left, or what it held.
  pub record Idles (octets : List ℕ) (h i : Holdings) : Type 0 where
    pub nothing : output.now ≡ output.before
    pub stays : HoldsSame h i
    pub founded : IsAccepted octets h ⊎ (i ≡ h)
    pub left : (i ≡ h) ⊎ ((a : IsAccepted octets h) × LeavesUnplayed a.script.dataset h i)
    pub tells : ((t : Telling) × Refused h octets t × Tells t.status t.line) ⊎ (Tells InputFault input_failed ⊎ (Tells DiskFault disk_failed ⊎ Tells NoMemory no_memory))

  -- What a session did, where its input and its store tell.
  abbrev pub Ends : Type 0
  Ends = IfSome input.before (λ octets. WhereTold store.before store.now (λ h i. Idles octets h i ⊎ Runs octets h i))

  -- Where a script that is accepted has a sound dataset, nothing refuses the session and no call failed, all is done, or the
  -- table is full, or memory ran out.
  abbrev pub IsComplete : Type 0
  IsComplete = IfSome input.before (λ octets. IfSome store.before (λ h. ((a : IsAccepted octets h) → IsSome (table_at h a.script.dataset)) → ((t : Telling) → Refused h octets t → ⊥)
      → ¬ (Failed store) → ¬ (Failed input) → ¬ (Failed output) → ¬ (Failed report) → (s ≡ Done) ⊎ ((s ≡ Limit) ⊎ (s ≡ NoMemory))))

  -- a status that says that no read of the input and no write of the output failed
  abbrev pub IsQuiet : Type 0
  IsQuiet = (s ≡ Done) ⊎ ((s ≡ statuses.Refused) ⊎ (s ≡ Limit))

  -- What a session has done: each folder is back by another clause; a fault is told only where a count rose. The store tells
  -- afterwards where it told before, and what was damaged is as it was, or its table is synced.
  pub record SessionRan : Type 0 where
    pub ends : Ends
    pub told : WhereTold store.before store.now (λ h i. Unit {0})
    pub spares : WhereTold store.before store.now SparesDamaged
    pub words : ¬ (s ≡ Words)
    pub missed : ¬ (s ≡ Missed)
    pub to_end : s ≡ Done → IfSome input.before (λ octets. input.now ≡ Some [])
    pub calm : IsQuiet → AreCalm input output
    pub input_fault : s ≡ InputFault → Failed input
    pub output_fault : s ≡ OutputFault → Failed output ⊎ Failed report
    pub disk_fault : s ≡ DiskFault → Failed store
    pub complete : IsComplete

-- The store is as it was before the session, and so are its rules; the input was read to its end, and is this script with
-- these messages.
pub record Begun (rules : List Rule) (s : Scripted) (messages : List (List ℕ)) (before has : Option Holdings) (faults now : ℕ) (input : Object (List ℕ)) : Type 0 where
  pub same : has ≡ before
  pub later : faults ≤ now
  pub rules_are : IfSome before (λ h. rules_of h.schema ≡ Ok rules)
  pub read : IfSome input.before (λ octets. IsInput octets s messages)
  pub to_end : IfSome input.before (λ octets. input.now ≡ Some [])
  pub calm : IsCalm input

-- Since the session began, where this was read of its input: what it did.
abbrev pub RanSince : Type 0 → Status → List Rule → Scripted → List (List ℕ) → Object Holdings → Object (List ℕ) → Object (List ℕ) → Object (List ℕ) → Type 0
RanSince F s rules script messages store input output report = (before : Option Holdings) (faults : ℕ) (left : Option (List ℕ)) (reads : ℕ)
    → Begun rules script messages before store.before faults store.faults_before (until left reads input)
    → SessionRan F s (since before faults store) (since left reads input) output report

-- this holds of the command, if it is a session
abbrev pub OfSession : Command → Type 0 → Type 0
OfSession (commands.Pick wanted) P = Unit {0}
OfSession commands.Describe P = Unit {0}
OfSession commands.Split P = Unit {0}
OfSession (commands.Values decimals) P = Unit {0}
OfSession (commands.Generate count) P = Unit {0}
OfSession (commands.Create root) P = Unit {0}
OfSession (commands.Archive root given workers) P = Unit {0}
OfSession (commands.Retrieve root workers) P = Unit {0}
OfSession (commands.RetrieveOver root layers workers) P = Unit {0}
OfSession (commands.List root) P = Unit {0}
OfSession (commands.Axes root) P = Unit {0}
OfSession (commands.Stats root) P = Unit {0}
OfSession (commands.Cubes root) P = Unit {0}
OfSession (commands.Session root) P = P
OfSession (commands.Purge root dataset) P = Unit {0}
OfSession (commands.Wipe root dataset) P = Unit {0}
OfSession (commands.Trial root count workers) P = Unit {0}
