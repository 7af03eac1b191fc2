-- What each status tells of the words, of the input, of the store, and of what was written.
use Rattle.std.specs.Prelude.{◌≡◌, ◌⊎◌, ◌++◌, ℕ, List, [], codes, Option, Some, None, IfSome, IsSome, Result, Ok, Err, Contains}
use Rattle.std.specs.Result.{IsOk}
use Rattle.fd_io.specs.Streams.{Takes, TakesFront}
use Rattle.fd_disk.specs.Folders.{Holdings, folder_at}
use Rattle.fd_key.specs.Pairs as keys
use Rattle.fd_schema.specs.Rules.{Rule}
use Rattle.fd_words.specs.declared.command.Command.{Command}
use Rattle.fd_words.specs.declared.command.Command.TheVariants as commands
use Rattle.fd_stored.specs.declared.status.Status.{Status}
use Rattle.fd_stored.specs.declared.status.Status.TheVariants.{Done, Missed, Words, Refused, InputFault, OutputFault, DiskFault, NoMemory, Damaged, Limit}
use Rattle.fd_listing.specs.Lines.{line}
use Rattle.fd_stored.specs.Causes.{Cause, Broken, damaged_line, table_full}
use Rattle.fd_stored.specs.Store.{AreNames, IsFull, Grows, GrowsBy, IsLookedThrough, Plants, Stands, Stays, table_at}
use Rattle.fd_outcome.specs.Asking.{Asked, ◌then◌, asked_of, datasets_of, partial_in, rules_of}
use Rattle.fd_outcome.specs.Layered.{Laid, laid_datasets, laid_of}
use Rattle.fd_stored.specs.Archiving.{Taken, taken, taken_of, pairs_for, datasets_in}
use Rattle.fd_outcome.specs.Objects.{Object, Failed, Failures, IsCalm, failures}
use Rattle.fd_outcome.specs.Reclaiming.{InDataset, LeavesPurged, LeavesWiped}
use Rattle.fd_outcome.specs.Trying.{trial_given, trial_rules, trial_schema}
use Rattle.fd_outcome.specs.Outcome.{Outcome, Early, outcome, early, generated_messages, nothing_early}

abbrev pub usage : List ℕ
usage = line (codes "usage: fdb pick describe values generate create archive retrieve list axes stats session trial purge wipe cubes split")

abbrev pub input_failed : List ℕ
input_failed = line (codes "input failed")

abbrev pub output_failed : List ℕ
output_failed = line (codes "output failed")

abbrev pub disk_failed : List ℕ
disk_failed = line (codes "disk failed")

abbrev pub no_memory : List ℕ
no_memory = line (codes "no memory")

-- ---- what was written. Of output and report stand what they had taken before and after, where they tell.

-- The status is that of the outcome, and all that the outcome writes was written.
pub record Tells (s : Status) (o : Outcome) (a b c d : Option (List ℕ)) : Type 0 where
  pub status : s ≡ o.status
  pub output : Takes a b o.output
  pub report : Takes c d o.report

-- a front of the first text and all of the second
abbrev pub TakesAfter : Option (List ℕ) → Option (List ℕ) → List ℕ → List ℕ → Type 0
TakesAfter c d most text = (front : List ℕ) × (rest : List ℕ) × (most ≡ front ++ rest) × Takes c d (front ++ text)

-- a front of the first text and a front of the second
abbrev pub TakesFrontAfter : Option (List ℕ) → Option (List ℕ) → List ℕ → List ℕ → Type 0
TakesFrontAfter c d most text = (front : List ℕ) × (rest : List ℕ) × (most ≡ front ++ rest) × TakesFront c d (front ++ text)

-- the run stopped early: output and report took fronts of what they may take then, and report took this line behind it
pub record Stops (most : Early) (text : List ℕ) (a b c d : Option (List ℕ)) : Type 0 where
  pub output : TakesFront a b most.output
  pub report : TakesAfter c d most.report text

-- The same. Where a dataset that is read is damaged, all that is said is that report took this line last.
abbrev pub StopsWith : Option Outcome → Early → List ℕ → Option (List ℕ) → Option (List ℕ) → Option (List ℕ) → Option (List ℕ) → Type 0
StopsWith (Some o) most text a b c d = Stops most text a b c d
StopsWith None most text a b c d = (before : List ℕ) × Takes c d (before ++ text)

-- the lines of what the store may meet, by their statuses
abbrev pub Troubles : Type 1
Troubles = Status → List ℕ → Type 0

abbrev pub Halts : Troubles → Status → Option Outcome → Early → Option (List ℕ) → Option (List ℕ) → Option (List ℕ) → Option (List ℕ) → Type 0
Halts troubles s o most a b c d = (text : List ℕ) × troubles s text × StopsWith o most text a b c d

-- The output failed: it took a front of what it was to take, and the report a front of what may come early and then the
-- line that tells it.
pub record Unwritten (o : Outcome) (most : Early) (a b c d : Option (List ℕ)) : Type 0 where
  pub output : TakesFront a b o.output
  pub report : TakesAfter c d most.report output_failed

-- The report failed, and output had taken a front of this; the report took a front of what may come early, or that and a
-- front of this line.
pub record Cut (most : Early) (text written : List ℕ) (a b c d : Option (List ℕ)) : Type 0 where
  pub output : TakesFront a b written
  pub report : TakesFrontAfter c d most.report text

-- What was written when the report failed.
pub data Untold (failed : Failures) (troubles : Troubles) (o : Outcome) (most : Early) (a b c d : Option (List ℕ)) : Type 0 where
  -- at a line that is told on the way
  OnTheWay : (output : TakesFront a b most.output) (report : TakesFront c d most.report) → Untold failed troubles o most a b c d
  -- at the end, where the output had taken all
  AtTheEnd : (output : Takes a b o.output) (report : TakesFront c d o.report) → Untold failed troubles o most a b c d
  -- at the line of another status that ends a run early
  AtOutputFailed : (cause : failed.output) (cut : Cut most output_failed o.output a b c d) → Untold failed troubles o most a b c d
  AtInputFailed : (cause : failed.input) (cut : Cut most input_failed most.output a b c d) → Untold failed troubles o most a b c d
  AtNoMemory : (cut : Cut most no_memory most.output a b c d) → Untold failed troubles o most a b c d
  AtTrouble : (s : Status) (text : List ℕ) (cause : troubles s text) (cut : Cut most text most.output a b c d) → Untold failed troubles o most a b c d

-- A write failed: of the output, or of the report. Where a dataset that is read is damaged, less is said.
abbrev pub Fails : Failures → Troubles → Option Outcome → Early → Option (List ℕ) → Option (List ℕ) → Option (List ℕ) → Option (List ℕ) → Type 0
Fails failed troubles (Some o) most a b c d = (failed.output × Unwritten o most a b c d) ⊎ (failed.report × Untold failed troubles o most a b c d)
Fails failed troubles None most a b c d = (failed.output × ((before : List ℕ) × Takes c d (before ++ output_failed))) ⊎ failed.report

-- there is an outcome, and it is told
abbrev pub TellsSome : Status → Option Outcome → Option (List ℕ) → Option (List ℕ) → Option (List ℕ) → Option (List ℕ) → Type 0
TellsSome s None a b c d = ⊥
TellsSome s (Some o) a b c d = Tells s o a b c d

-- What the status of a command says of the outcome and of what was written.
abbrev pub Ends : Failures → Status → Option Outcome → Early → Troubles → Option (List ℕ) → Option (List ℕ) → Option (List ℕ) → Option (List ℕ) → Type 0
Ends failed Done o most troubles a b c d = IfSome o (λ x. Tells Done x a b c d)
Ends failed Missed o most troubles a b c d = IfSome o (λ x. Tells Missed x a b c d)
Ends failed Words o most troubles a b c d = ⊥
Ends failed Refused o most troubles a b c d = TellsSome Refused o a b c d
Ends failed InputFault o most troubles a b c d = StopsWith o most input_failed a b c d
Ends failed OutputFault o most troubles a b c d = Fails failed troubles o most a b c d
Ends failed DiskFault o most troubles a b c d = Halts troubles DiskFault o most a b c d
Ends failed NoMemory o most troubles a b c d = StopsWith o most no_memory a b c d
Ends failed Damaged o most troubles a b c d = TellsSome Damaged o a b c d ⊎ Halts troubles Damaged o most a b c d
Ends failed Limit o most troubles a b c d = TellsSome Limit o a b c d ⊎ Halts troubles Limit o most a b c d

-- ---- what a store may meet

abbrev pub AmongAsked : Result (List Asked) Cause → List ℕ → Type 0
AmongAsked (Ok asked) name = Contains (datasets_of asked) name
AmongAsked (Err cause) name = ⊥

abbrev pub AmongLaid : Result (List Laid) Cause → List ℕ → Type 0
AmongLaid (Ok asked) name = Contains (laid_datasets asked) name
AmongLaid (Err cause) name = ⊥

abbrev pub AmongTaken : List keys.Pair → Result (List Rule) Cause → List ℕ → List ℕ → Type 0
AmongTaken given (Ok rules) input name = Contains (datasets_in (taken rules given input).stored) name
AmongTaken given (Err cause) input name = ⊥

-- the command opens the dataset: `retrieve` those of the keys, and over layers those under them too, `archive` and `trial` those of the messages, the listings all,
-- once schema and request are good, `purge` and `wipe` the one that they name.
-- Of a session that is said with what it does.
abbrev pub Opens : Command → Holdings → List (List ℕ) → List ℕ → List ℕ → Type 0
Opens (commands.Pick wanted) h names input name = ⊥
Opens commands.Describe h names input name = ⊥
Opens commands.Split h names input name = ⊥
Opens (commands.Values decimals) h names input name = ⊥
Opens (commands.Generate count) h names input name = ⊥
Opens (commands.Create root) h names input name = ⊥
Opens (commands.Archive root given workers) h names input name = AmongTaken given (rules_of h.schema) input name
Opens (commands.Retrieve root workers) h names input name = AmongAsked (asked_of h input) name
Opens (commands.RetrieveOver root layers workers) h names input name = AmongLaid (laid_of h layers input) name
Opens (commands.List root) h names input name = IsOk (rules_of h.schema then λ rules. partial_in input) × Contains names name
Opens (commands.Axes root) h names input name = IsOk (rules_of h.schema then λ rules. partial_in input) × Contains names name
Opens (commands.Stats root) h names input name = IsOk (rules_of h.schema) × Contains names name
Opens (commands.Cubes root) h names input name = IsOk (rules_of h.schema then λ rules. partial_in input) × Contains names name
Opens (commands.Session root) h names input name = ⊥
Opens (commands.Purge root dataset) h names input name = name ≡ dataset
Opens (commands.Wipe root dataset) h names input name = name ≡ dataset
Opens (commands.Trial root count workers) h names input name = AmongTaken trial_given (trial_rules h.schema) (generated_messages count) name

-- the command calls the store
abbrev pub UsesStore : Command → Type 0
UsesStore (commands.Pick wanted) = ⊥
UsesStore commands.Describe = ⊥
UsesStore commands.Split = ⊥
UsesStore (commands.Values decimals) = ⊥
UsesStore (commands.Generate count) = ⊥
UsesStore (commands.Create root) = Unit {0}
UsesStore (commands.Archive root given workers) = Unit {0}
UsesStore (commands.Retrieve root workers) = Unit {0}
UsesStore (commands.RetrieveOver root layers workers) = Unit {0}
UsesStore (commands.List root) = Unit {0}
UsesStore (commands.Axes root) = Unit {0}
UsesStore (commands.Stats root) = Unit {0}
UsesStore (commands.Cubes root) = Unit {0}
UsesStore (commands.Session root) = Unit {0}
UsesStore (commands.Purge root dataset) = Unit {0}
UsesStore (commands.Wipe root dataset) = Unit {0}
UsesStore (commands.Trial root count workers) = Unit {0}

-- the command stores fields
abbrev pub StoresFields : Command → Type 0
StoresFields (commands.Pick wanted) = ⊥
StoresFields commands.Describe = ⊥
StoresFields commands.Split = ⊥
StoresFields (commands.Values decimals) = ⊥
StoresFields (commands.Generate count) = ⊥
StoresFields (commands.Create root) = ⊥
StoresFields (commands.Archive root given workers) = Unit {0}
StoresFields (commands.Retrieve root workers) = ⊥
StoresFields (commands.RetrieveOver root layers workers) = ⊥
StoresFields (commands.List root) = ⊥
StoresFields (commands.Axes root) = ⊥
StoresFields (commands.Stats root) = ⊥
StoresFields (commands.Cubes root) = ⊥
StoresFields (commands.Session root) = Unit {0}
StoresFields (commands.Purge root dataset) = ⊥
StoresFields (commands.Wipe root dataset) = ⊥
StoresFields (commands.Trial root count workers) = Unit {0}

-- This is broken in the dataset before the command. `trial` looks for fields behind what it stored, and may meet then what is
-- broken afterwards, in a dataset that was damaged before.
abbrev pub IsBroken : Command → Holdings → Holdings → List ℕ → Broken → Type 0
IsBroken (commands.Pick wanted) h i name broken = Stands name (folder_at h name) broken
IsBroken commands.Describe h i name broken = Stands name (folder_at h name) broken
IsBroken commands.Split h i name broken = Stands name (folder_at h name) broken
IsBroken (commands.Values decimals) h i name broken = Stands name (folder_at h name) broken
IsBroken (commands.Generate count) h i name broken = Stands name (folder_at h name) broken
IsBroken (commands.Create root) h i name broken = Stands name (folder_at h name) broken
IsBroken (commands.Archive root given workers) h i name broken = Stands name (folder_at h name) broken
IsBroken (commands.Retrieve root workers) h i name broken = Stands name (folder_at h name) broken
IsBroken (commands.RetrieveOver root layers workers) h i name broken = Stands name (folder_at h name) broken
IsBroken (commands.List root) h i name broken = Stands name (folder_at h name) broken
IsBroken (commands.Axes root) h i name broken = Stands name (folder_at h name) broken
IsBroken (commands.Stats root) h i name broken = Stands name (folder_at h name) broken
IsBroken (commands.Cubes root) h i name broken = Stands name (folder_at h name) broken
IsBroken (commands.Session root) h i name broken = Stands name (folder_at h name) broken
IsBroken (commands.Purge root dataset) h i name broken = Stands name (folder_at h name) broken
IsBroken (commands.Wipe root dataset) h i name broken = Stands name (folder_at h name) broken
IsBroken (commands.Trial root count workers) h i name broken = Stands name (folder_at h name) broken ⊎ ((table_at h name ≡ None) × Stands name (folder_at i name) broken)

-- the line names what is broken in a dataset that the command opens
abbrev pub TellsDamage : Command → Holdings → Holdings → List (List ℕ) → List ℕ → List ℕ → Type 0
TellsDamage command h i names input text =
    (name : List ℕ) × (broken : Broken) × Opens command h names input name × IsBroken command h i name broken × (text ≡ damaged_line name broken)

-- A call of the store fails; a dataset is damaged; a table of a dataset that it opens is full afterwards. Nothing else that
-- the store meets ends a command.
abbrev pub troubles : Command → Failures → Holdings → Holdings → List (List ℕ) → List ℕ → Troubles
troubles command failed h i names input Done text = ⊥
troubles command failed h i names input Missed text = ⊥
troubles command failed h i names input Words text = ⊥
troubles command failed h i names input Refused text = ⊥
troubles command failed h i names input InputFault text = ⊥
troubles command failed h i names input OutputFault text = ⊥
troubles command failed h i names input DiskFault text = UsesStore command × failed.store × (text ≡ disk_failed)
troubles command failed h i names input NoMemory text = ⊥
troubles command failed h i names input Damaged text = TellsDamage command h i names input text
troubles command failed h i names input Limit text = StoresFields command × (text ≡ table_full) × ((name : List ℕ) × Opens command h names input name × IsFull i name)

-- ---- of a command, where the objects tell

abbrev pub nothing_held : Holdings
nothing_held = record { schema = None; folders = λ name. None }

-- Where the input and the store tell, as far as the command asks them; the store before the command and after it. What a
-- session makes of them hangs on its lanes, and what `cubes` makes of them on how it joins keys; both are said by themselves.
abbrev pub WhereAsked : Command → Option (List ℕ) → Option Holdings → Option Holdings → (List ℕ → Holdings → Holdings → Type 0) → Type 0
WhereAsked (commands.Pick wanted) input store after P = IfSome input (λ octets. P octets nothing_held nothing_held)
WhereAsked commands.Describe input store after P = IfSome input (λ octets. P octets nothing_held nothing_held)
WhereAsked commands.Split input store after P = IfSome input (λ octets. P octets nothing_held nothing_held)
WhereAsked (commands.Values decimals) input store after P = IfSome input (λ octets. P octets nothing_held nothing_held)
WhereAsked (commands.Generate count) input store after P = P [] nothing_held nothing_held
WhereAsked (commands.Create root) input store after P = IfSome input (λ octets. IfSome store (λ h. IfSome after (P octets h)))
WhereAsked (commands.Archive root given workers) input store after P = IfSome input (λ octets. IfSome store (λ h. IfSome after (P octets h)))
WhereAsked (commands.Retrieve root workers) input store after P = IfSome input (λ octets. IfSome store (λ h. IfSome after (P octets h)))
WhereAsked (commands.RetrieveOver root layers workers) input store after P = IfSome input (λ octets. IfSome store (λ h. IfSome after (P octets h)))
WhereAsked (commands.List root) input store after P = IfSome input (λ octets. IfSome store (λ h. IfSome after (P octets h)))
WhereAsked (commands.Axes root) input store after P = IfSome input (λ octets. IfSome store (λ h. IfSome after (P octets h)))
WhereAsked (commands.Stats root) input store after P = IfSome store (λ h. IfSome after (P [] h))
WhereAsked (commands.Cubes root) input store after P = Unit {0}
WhereAsked (commands.Session root) input store after P = Unit {0}
WhereAsked (commands.Purge root dataset) input store after P = IfSome store (λ h. IfSome after (P [] h))
WhereAsked (commands.Wipe root dataset) input store after P = IfSome store (λ h. IfSome after (P [] h))
WhereAsked (commands.Trial root count workers) input store after P = IfSome store (λ h. IfSome after (P [] h))

-- What a status says of a command, of its input and of its store.
abbrev pub Runs : Command → Status → Object Holdings → Object (List ℕ) → Object (List ℕ) → Object (List ℕ) → Type 0
Runs command s store input output report = WhereAsked command input.before store.before store.now (λ octets h i. (names : List (List ℕ)) → AreNames h names
    → Ends (failures store input output report) s (outcome command h names octets) (early command h names octets) (troubles command (failures store input output report) h i names octets)
    output.before output.now report.before report.now)

-- What a status says where the words are no command: nothing goes to the output, and only the report can fail.
abbrev pub EndsUnasked : Status → Object (List ℕ) → Object (List ℕ) → Type 0
EndsUnasked Done output report = ⊥
EndsUnasked Missed output report = ⊥
EndsUnasked Words output report = Stops nothing_early usage output.before output.now report.before report.now
EndsUnasked Refused output report = ⊥
EndsUnasked InputFault output report = ⊥
EndsUnasked OutputFault output report = Failed report × TakesFront output.before output.now [] × (TakesFront report.before report.now usage ⊎ TakesFront report.before report.now no_memory)
EndsUnasked DiskFault output report = ⊥
EndsUnasked NoMemory output report = Stops nothing_early no_memory output.before output.now report.before report.now
EndsUnasked Damaged output report = ⊥
EndsUnasked Limit output report = ⊥

-- no read of the input and no write of the output failed
abbrev pub AreCalm : Object (List ℕ) → Object (List ℕ) → Type 0
AreCalm input output = IsCalm input × IsCalm output

-- At 0, 1, 3 and 9 no read of the input and no write of the output failed, so a fault is told. A full table is told in
-- its place.
abbrev pub Calm : Command → Status → Object (List ℕ) → Object (List ℕ) → Object (List ℕ) → Type 0
Calm command Done input output report = AreCalm input output
Calm command Missed input output report = AreCalm input output
Calm command Words input output report = Unit {0}
Calm command Refused input output report = AreCalm input output
Calm command InputFault input output report = Unit {0}
Calm command OutputFault input output report = Unit {0}
Calm command DiskFault input output report = Unit {0}
Calm command NoMemory input output report = Unit {0}
Calm command Damaged input output report = Unit {0}
Calm command Limit input output report = AreCalm input output ⊎ (StoresFields command × Takes report.before report.now table_full)

-- At 0 and 1 the input was read to its end. `generate`, `stats`, `trial`, `purge` and `wipe` read none of it.
abbrev pub ReadsOut : Command → Option (List ℕ) → Option (List ℕ) → Type 0
ReadsOut (commands.Generate count) before after = after ≡ before
ReadsOut (commands.Stats root) before after = after ≡ before
ReadsOut (commands.Trial root count workers) before after = after ≡ before
ReadsOut (commands.Purge root dataset) before after = after ≡ before
ReadsOut (commands.Wipe root dataset) before after = after ≡ before
ReadsOut (commands.Session root) before after = IfSome before (λ octets. after ≡ Some [])
ReadsOut (commands.Pick wanted) before after = IfSome before (λ octets. after ≡ Some [])
ReadsOut commands.Describe before after = IfSome before (λ octets. after ≡ Some [])
ReadsOut commands.Split before after = IfSome before (λ octets. after ≡ Some [])
ReadsOut (commands.Values decimals) before after = IfSome before (λ octets. after ≡ Some [])
ReadsOut (commands.Create root) before after = IfSome before (λ octets. after ≡ Some [])
ReadsOut (commands.Archive root given workers) before after = IfSome before (λ octets. after ≡ Some [])
ReadsOut (commands.Retrieve root workers) before after = IfSome before (λ octets. after ≡ Some [])
ReadsOut (commands.RetrieveOver root layers workers) before after = IfSome before (λ octets. after ≡ Some [])
ReadsOut (commands.List root) before after = IfSome before (λ octets. after ≡ Some [])
ReadsOut (commands.Axes root) before after = IfSome before (λ octets. after ≡ Some [])
ReadsOut (commands.Cubes root) before after = IfSome before (λ octets. after ≡ Some [])

-- the datasets that the command opens aren't damaged
abbrev pub AreSound : Command → Holdings → List (List ℕ) → List ℕ → Type 0
AreSound command h names input = (name : List ℕ) → Opens command h names input name → IsSome (table_at h name)

-- Where no count of faults rose and no dataset that it opens is damaged, a command ends with the status of its outcome, or
-- memory ran out, or, for `archive` and `trial`, a table was full.
abbrev pub Completes : Command → Status → Option (List ℕ) → Option Holdings → Option Holdings → Type 0
Completes command s input store after = WhereAsked command input store after (λ octets h i. (names : List (List ℕ)) → AreNames h names → AreSound command h names octets
    → (o : Outcome) → outcome command h names octets ≡ Some o → (s ≡ o.status) ⊎ ((s ≡ NoMemory) ⊎ (StoresFields command × (s ≡ Limit))))

-- ---- what becomes of the store

-- the octets before those that are left were read, and the messages that are whole in them are stored
pub record StoresRead (workers : ℕ) (rules : List Rule) (given : List keys.Pair) (input : List ℕ) (left : Option (List ℕ)) (h i : Holdings) : Type 0 where
  pub seen : List ℕ
  pub rest : List ℕ
  pub input_is : input ≡ seen ++ rest
  pub left_is : left ≡ Some rest
  pub grows : GrowsBy workers (pairs_for (taken_of rules given seen)) h i

-- a table of one of the datasets is full, and what was stored is of the stream
pub record StoresUntilFull (workers : ℕ) (stored : Taken) (h i : Holdings) : Type 0 where
  pub name : List ℕ
  pub among : Contains (datasets_in stored.stored) name
  pub full : IsFull i name
  pub grows : Grows workers (pairs_for stored.stored) h i

-- What `archive` leaves of the store. `calm` says that no call of the store has failed, `full` that the line of a full table
-- was told.
abbrev pub LeavesStored : Status → Type 0 → Type 0 → ℕ → List Rule → List keys.Pair → List ℕ → Option (List ℕ) → Holdings → Holdings → Type 0
LeavesStored Done calm full workers rules given input left h i = GrowsBy workers (pairs_for (taken rules given input).stored) h i
LeavesStored Missed calm full workers rules given input left h i = ⊥
LeavesStored Words calm full workers rules given input left h i = ⊥
LeavesStored Refused calm full workers rules given input left h i = GrowsBy workers (pairs_for (taken rules given input).stored) h i
LeavesStored InputFault calm full workers rules given input left h i = StoresRead workers rules given input left h i
LeavesStored OutputFault calm full workers rules given input left h i = calm → Grows workers (pairs_for (taken rules given input).stored) h i
LeavesStored DiskFault calm full workers rules given input left h i = calm → Grows workers (pairs_for (taken rules given input).stored) h i
LeavesStored NoMemory calm full workers rules given input left h i = Grows workers (pairs_for (taken rules given input).stored) h i
LeavesStored Damaged calm full workers rules given input left h i = Grows workers (pairs_for (taken rules given input).stored) h i
LeavesStored Limit calm full workers rules given input left h i = GrowsBy workers (pairs_for (taken rules given input).stored) h i ⊎ (full × StoresUntilFull workers (taken rules given input) h i)

abbrev pub LeavesBy : Status → Type 0 → Type 0 → ℕ → Result (List Rule) Cause → List keys.Pair → List ℕ → Option (List ℕ) → Holdings → Holdings → Type 0
LeavesBy s calm full workers (Ok rules) given input left h i = LeavesStored s calm full workers rules given input left h i
LeavesBy s calm full workers (Err cause) given input left h i = Stays h i

-- What `create` leaves of the store.
abbrev pub LeavesSchema : Status → List ℕ → Holdings → Holdings → Type 0
LeavesSchema Done input h i = Plants input h i
LeavesSchema Missed input h i = ⊥
LeavesSchema Words input h i = ⊥
LeavesSchema Refused input h i = Stays h i
LeavesSchema InputFault input h i = Stays h i
LeavesSchema OutputFault input h i = Stays h i ⊎ Plants input h i
LeavesSchema DiskFault input h i = Stays h i ⊎ Plants input h i
LeavesSchema NoMemory input h i = Stays h i
LeavesSchema Damaged input h i = ⊥
LeavesSchema Limit input h i = Stays h i

-- A run may end so before `trial` has a schema.
abbrev pub EndsUnplanted : Status → Type 0
EndsUnplanted Done = ⊥
EndsUnplanted Missed = ⊥
EndsUnplanted Words = ⊥
EndsUnplanted Refused = ⊥
EndsUnplanted InputFault = ⊥
EndsUnplanted OutputFault = Unit {0}
EndsUnplanted DiskFault = Unit {0}
EndsUnplanted NoMemory = Unit {0}
EndsUnplanted Damaged = ⊥
EndsUnplanted Limit = ⊥

-- all stayed where there was a schema, or else that of `trial` was planted
abbrev pub IsPlanted : Holdings → Holdings → Type 0
IsPlanted h m = (IsSome h.schema × Stays h m) ⊎ Plants trial_schema h m

-- What `trial` leaves of the store: it has a schema first, which stays, and then what `archive` leaves of its messages, all of
-- which are read.
abbrev pub LeavesTried : Status → Type 0 → Type 0 → ℕ → Result (List Rule) Cause → ℕ → Holdings → Holdings → Type 0
LeavesTried s calm full workers (Ok rules) count h i =
    (EndsUnplanted s × Stays h i) ⊎ ((m : Holdings) × IsPlanted h m × (i.schema ≡ m.schema) × LeavesStored s calm full workers rules trial_given (generated_messages count) None m i)
LeavesTried s calm full workers (Err cause) count h i = Stays h i

-- What a command leaves of the store: a command over a stream doesn't call it, and a command that only reads leaves the
-- schema and each file as they were, and each table as it was or synced. `purge` and `wipe` change one dataset.
abbrev pub Leaves : Command → Status → Type 0 → Type 0 → Option (List ℕ) → Option (List ℕ) → Holdings → Holdings → Type 0
Leaves (commands.Pick wanted) s calm full input left h i = i ≡ h
Leaves commands.Describe s calm full input left h i = i ≡ h
Leaves commands.Split s calm full input left h i = i ≡ h
Leaves (commands.Values decimals) s calm full input left h i = i ≡ h
Leaves (commands.Generate count) s calm full input left h i = i ≡ h
Leaves (commands.Create root) s calm full input left h i = IfSome input (λ octets. LeavesSchema s octets h i)
Leaves (commands.Archive root given workers) s calm full input left h i = IfSome input (λ octets. LeavesBy s calm full workers (rules_of h.schema) given octets left h i)
Leaves (commands.Retrieve root workers) s calm full input left h i = IsLookedThrough h i
Leaves (commands.RetrieveOver root layers workers) s calm full input left h i = IsLookedThrough h i
Leaves (commands.List root) s calm full input left h i = IsLookedThrough h i
Leaves (commands.Axes root) s calm full input left h i = IsLookedThrough h i
Leaves (commands.Stats root) s calm full input left h i = IsLookedThrough h i
Leaves (commands.Cubes root) s calm full input left h i = IsLookedThrough h i
Leaves (commands.Session root) s calm full input left h i = Unit {0}
Leaves (commands.Purge root dataset) s calm full input left h i = InDataset dataset (LeavesPurged s dataset) h i
Leaves (commands.Wipe root dataset) s calm full input left h i = InDataset dataset (LeavesWiped s dataset) h i
Leaves (commands.Trial root count workers) s calm full input left h i = LeavesTried s calm full workers (trial_rules h.schema) count h i
