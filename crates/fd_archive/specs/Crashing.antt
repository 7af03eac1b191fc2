-- What a crash leaves of a store in which messages were archived.
use Rattle.std.specs.Prelude.{◌≡◌, ◌⊎◌, ◌++◌, ℕ, List, Option, Some, None, Contains, IfSome, Result, Ok, Err}
use Rattle.fd_io.specs.Streams.{Takes}
use Rattle.fd_disk.specs.Folders.{Contents, Holdings, WhereTold, folder_at}
use Rattle.fd_entries.specs.declared.batch.Pair.{Pair}
use Rattle.fd_key.specs.Pairs as keys
use Rattle.fd_schema.specs.Rules.{Rule}
pub use Rattle.fd_recovery.specs.Crashing.{AreFirm, IsAfterCrash, IsFirmTable, IsFolderAfter}
use Rattle.fd_stored.specs.Causes.{Cause, table_full}
use Rattle.fd_outcome.specs.Asking.{rules_of}
use Rattle.fd_outcome.specs.Objects.{Object}
use Rattle.fd_outcome.specs.Outcome.{generated_messages}
use Rattle.fd_outcome.specs.Trying.{trial_given, trial_rules}
use Rattle.fd_words.specs.declared.command.Command.{Command}
use Rattle.fd_words.specs.declared.command.Command.TheVariants as commands
use Rattle.fd_stored.specs.Archiving.{Stored, datasets_in, pairs_for, taken, taken_of}
use Rattle.fd_stored.specs.Store.{Adds, AddsAll, Grows, Sorted, table_at}
use Rattle.fd_stored.specs.declared.status.Status.{Status}
use Rattle.fd_stored.specs.declared.status.Status.TheVariants.{Done, Missed, Words, Refused, InputFault, OutputFault, DiskFault, NoMemory, Damaged, Limit}

-- These messages are whole in each store that a crash may leave: each dataset of them that was sound has all its pairs.
pub record IsFirm (workers : ℕ) (all : List Stored) (h i : Holdings) : Type 0 where
  pub each : (j : Holdings) → IsAfterCrash i j → (name : List ℕ) → Contains (datasets_in all) name → (t : List (List Pair)) → table_at h name ≡ Some t → AddsAll workers (pairs_for all name) t (table_at j name)

-- the same of the messages that are whole in the octets before those that are left
pub record IsFirmRead (workers : ℕ) (rules : List Rule) (given : List keys.Pair) (input : List ℕ) (left : Option (List ℕ)) (h i : Holdings) : Type 0 where
  pub seen : List ℕ
  pub rest : List ℕ
  pub input_is : input ≡ seen ++ rest
  pub left_is : left ≡ Some rest
  pub firm : IsFirm workers (taken_of rules given seen) h i

-- the folder has the table and the files that it had
pub record IsUntouched (v w : Contents) : Type 0 where
  pub table : w.table ≡ v.table
  pub files : w.files ≡ v.files

-- The later store came about of the earlier. Of each dataset that was sound the folder is untouched; or in each store that a
-- crash may leave the dataset holds what it held, and behind it few batches of its pairs alone, each of them whole.
pub record GrowsFirmly (workers : ℕ) (pairs : Sorted) (h i : Holdings) : Type 0 where
  pub each : (name : List ℕ) (t : List (List Pair)) → table_at h name ≡ Some t
      → IsUntouched (folder_at h name) (folder_at i name) ⊎ ((j : Holdings) → IsAfterCrash i j → Adds workers (pairs name) t (table_at j name))

-- What outlasts a crash by the status: all that was archived, where that is told, or what stands before the refusal or the
-- failed read that is told. `full` says that the line of a full table was told. At a fault of the store, or where no line
-- could be told, each dataset has few batches more, of its pairs alone.
abbrev pub Outlasts : Status → Type 0 → ℕ → List Rule → List keys.Pair → List ℕ → Option (List ℕ) → Holdings → Holdings → Type 0
Outlasts Done full workers rules given input left h i = IsFirm workers (taken rules given input).stored h i
Outlasts Missed full workers rules given input left h i = ⊥
Outlasts Words full workers rules given input left h i = ⊥
Outlasts Refused full workers rules given input left h i = IsFirm workers (taken rules given input).stored h i
Outlasts InputFault full workers rules given input left h i = IsFirmRead workers rules given input left h i
Outlasts OutputFault full workers rules given input left h i = Grows workers (pairs_for (taken rules given input).stored) h i
Outlasts DiskFault full workers rules given input left h i = Grows workers (pairs_for (taken rules given input).stored) h i
Outlasts NoMemory full workers rules given input left h i = Grows workers (pairs_for (taken rules given input).stored) h i
Outlasts Damaged full workers rules given input left h i = Grows workers (pairs_for (taken rules given input).stored) h i
Outlasts Limit full workers rules given input left h i = IsFirm workers (taken rules given input).stored h i ⊎ (full × Grows workers (pairs_for (taken rules given input).stored) h i)

-- The same, where the store has rules; and at every status what each store has that a crash may leave. Where it has none, it is
-- as it was.
abbrev pub OutlastsBy : Status → Type 0 → ℕ → Result (List Rule) Cause → List keys.Pair → List ℕ → Option (List ℕ) → Holdings → Holdings → Type 0
OutlastsBy s full workers (Ok rules) given input left h i = Outlasts s full workers rules given input left h i × GrowsFirmly workers (pairs_for (taken rules given input).stored) h i
OutlastsBy s full workers (Err cause) given input left h i = i ≡ h

-- What outlasts a crash of a trial: at 0 all its messages, and at every status few batches of them alone. Where the stored schema
-- isn't that of a trial, the store is as it was.
abbrev pub OutlastsTrial : Status → ℕ → ℕ → Result (List Rule) Cause → Holdings → Holdings → Type 0
OutlastsTrial s workers count (Ok rules) h i =
    (s ≡ Done → IsFirm workers (taken rules trial_given (generated_messages count)).stored h i) × GrowsFirmly workers (pairs_for (taken rules trial_given (generated_messages count)).stored) h i
OutlastsTrial s workers count (Err cause) h i = i ≡ h

-- What outlasts a crash of what an archive or a trial stored, where its input and its store tell.
abbrev pub OutlastsCrash : Command → Status → Object Holdings → Object (List ℕ) → Object (List ℕ) → Type 0
OutlastsCrash (commands.Pick wanted) s store input report = Unit {0}
OutlastsCrash commands.Describe s store input report = Unit {0}
OutlastsCrash commands.Split s store input report = Unit {0}
OutlastsCrash (commands.Values decimals) s store input report = Unit {0}
OutlastsCrash (commands.Generate count) s store input report = Unit {0}
OutlastsCrash (commands.Create root) s store input report = Unit {0}
OutlastsCrash (commands.Archive root given workers) s store input report =
    IfSome input.before (λ octets. WhereTold store.before store.now (λ h i. OutlastsBy s (Takes report.before report.now table_full) workers (rules_of h.schema) given octets input.now h i))
OutlastsCrash (commands.Retrieve root workers) s store input report = Unit {0}
OutlastsCrash (commands.RetrieveOver root layers workers) s store input report = Unit {0}
OutlastsCrash (commands.List root) s store input report = Unit {0}
OutlastsCrash (commands.Axes root) s store input report = Unit {0}
OutlastsCrash (commands.Stats root) s store input report = Unit {0}
OutlastsCrash (commands.Cubes root) s store input report = Unit {0}
OutlastsCrash (commands.Session root) s store input report = Unit {0}
OutlastsCrash (commands.Purge root dataset) s store input report = Unit {0}
OutlastsCrash (commands.Wipe root dataset) s store input report = Unit {0}
OutlastsCrash (commands.Trial root count workers) s store input report = WhereTold store.before store.now (λ h i. OutlastsTrial s workers count (trial_rules h.schema) h i)
