-- What is found of a store whose command was stopped at some call of the disk, and which then crashed.
use Rattle.std.specs.Prelude.{◌≡◌, ◌≢◌, ◌⊎◌, ℕ, List, Option, Some, None, Result, Ok, Err, option_map}
use Rattle.std.specs.Result.{IsOk}
use Rattle.fd_disk.specs.Folders.{Contents, Holdings, IsStoreImage, Left, WhereTold, folder_at}
use Rattle.fd_disk.specs.Images.{firm_file}
use Rattle.fd_entries.specs.declared.batch.Pair.{Pair}
use Rattle.fd_key.specs.Pairs as keys
use Rattle.fd_schema.specs.Grammar.{schema_of}
use Rattle.fd_schema.specs.Rules.{Rule}
use Rattle.fd_purge.specs.Purging.{read_of}
pub use Rattle.fd_recovery.specs.Crashing.{AreFirm, IsAfterCrash, IsFolderAfter}
use Rattle.fd_words.specs.declared.command.Command.{Command}
use Rattle.fd_stored.specs.declared.status.Status.{Status}
use Rattle.fd_stored.specs.declared.status.Status.TheVariants.{Done, Missed}
use Rattle.fd_stored.specs.Causes.{Cause}
use Rattle.fd_outcome.specs.Ends.{Opens, WhereAsked}
use Rattle.fd_stored.specs.Archiving.{pairs_for, taken}
use Rattle.fd_outcome.specs.Outcome.{generated_messages}
use Rattle.fd_outcome.specs.Trying.{trial_given, trial_schema}
use Rattle.fd_stored.specs.Store.{Adds, AreNames, Sorted, table_at}

-- each store that a crash may leave of the later one is so
abbrev pub EachLeft : (Holdings → Holdings → Type 0) → Holdings → Holdings → Type 0
EachLeft P h i = (j : Holdings) → IsAfterCrash i j → P h j

-- Of each dataset that was sound this is what a crash before the command may have left; or it holds what it held, and behind it
-- few batches of its pairs alone, each of them whole. Where all tables were firm, it is the second, with maybe no batches.
pub record HasGrown (workers : ℕ) (pairs : Sorted) (h j : Holdings) : Type 0 where
  pub each : (name : List ℕ) (t : List (List Pair)) → table_at h name ≡ Some t → IsFolderAfter (folder_at h name) (folder_at j name) ⊎ Adds workers (pairs name) t (table_at j name)
  pub firm : AreFirm h → (name : List ℕ) (t : List (List Pair)) → table_at h name ≡ Some t → Adds workers (pairs name) t (table_at j name)

-- What is found of an archive: the schema, and datasets that have grown. A store without rules is what a crash before may
-- have left.
abbrev pub FoundStored : ℕ → Result (List Rule) Cause → List keys.Pair → List ℕ → Holdings → Holdings → Type 0
FoundStored workers (Ok rules) given octets h j = (j.schema ≡ h.schema) × HasGrown workers (pairs_for (taken rules given octets).stored) h j
FoundStored workers (Err cause) given octets h j = IsAfterCrash h j

-- the schema is as it was, or there was none and this is it
abbrev pub HasSchemaOr : List ℕ → Holdings → Holdings → Type 0
HasSchemaOr text h j = (j.schema ≡ h.schema) ⊎ ((h.schema ≡ None) × (j.schema ≡ Some text))

-- The same of a trial. Where there was no schema, there may be that of a trial.
abbrev pub FoundTried : ℕ → ℕ → Result (List Rule) Cause → Holdings → Holdings → Type 0
FoundTried workers count (Ok rules) h j = HasSchemaOr trial_schema h j × HasGrown workers (pairs_for (taken rules trial_given (generated_messages count)).stored) h j
FoundTried workers count (Err cause) h j = IsAfterCrash h j

-- What is found where a schema was to be stored: the one that there was, or there was none and the whole input is it, and is one.
-- Of each dataset it is what a crash before may have left.
pub record FoundCreated (octets : List ℕ) (h j : Holdings) : Type 0 where
  pub schema : (j.schema ≡ h.schema) ⊎ ((h.schema ≡ None) × (j.schema ≡ Some octets) × IsOk (schema_of octets))
  pub folders : (name : List ℕ) → IsFolderAfter (folder_at h name) (folder_at j name)

-- each dataset that the command opened holds what it held
abbrev pub HasAnswered : Command → List ℕ → Holdings → Holdings → Type 0
HasAnswered command input h j = (names : List (List ℕ)) → AreNames h names → (name : List ℕ) → Opens command h names input name → table_at j name ≡ table_at h name

-- Where a command that reads ended with 0 or 1, what it answered from outlasts a crash.
abbrev pub AnswersLast : Command → Status → Option (List ℕ) → Option Holdings → Option Holdings → Type 0
AnswersLast command s input a b = (s ≡ Done) ⊎ (s ≡ Missed) → WhereAsked command input a b (λ octets h i. EachLeft (HasAnswered command octets) h i)

-- What is found where one dataset was purged or wiped: the schema, and of each other dataset what a crash before may have left.
-- Of this one it is that, or what the purge or the wipe leaves at a moment of it.
pub record FoundReclaimed (dataset : List ℕ) (P : Contents → Left → Type 0) (h j : Holdings) : Type 0 where
  pub schema : j.schema ≡ h.schema
  pub others : (other : List ℕ) → other ≢ dataset → IsFolderAfter (folder_at h other) (folder_at j other)
  pub there : IsFolderAfter (folder_at h dataset) (folder_at j dataset) ⊎ P (folder_at h dataset) (read_of (folder_at j dataset))

-- Where all tables were firm, a sound dataset holds what it held, or the new batches.
abbrev pub HasOldOr : (List (List Pair) → List (List Pair)) → List ℕ → Holdings → Holdings → Type 0
HasOldOr new dataset h j = AreFirm h → (t : List (List Pair)) → table_at h dataset ≡ Some t → (table_at j dataset ≡ Some t) ⊎ (table_at j dataset ≡ Some (new t))

-- What each store has that a crash may leave once a dataset was purged or wiped: it is found so; and where all tables were firm, its
-- table is the old one, or the new.
pub record LeavesReclaimed (dataset : List ℕ) (P : Contents → Left → Type 0) (new : List (List Pair) → List (List Pair)) (before now : Option Holdings) : Type 0 where
  pub finds : WhereTold before now (EachLeft (FoundReclaimed dataset P))
  pub table : WhereTold before now (EachLeft (HasOldOr new dataset))

-- what a crash left of a store, with each table firm
abbrev pub firm_left : Left → Contents
firm_left left = record { table = option_map firm_file left.table; files = left.files }

abbrev pub store_left : Option (List ℕ) → (List ℕ → Option Left) → Holdings
store_left schema folders = record { schema = schema; folders = λ name. option_map firm_left (folders name) }

-- Each image of a store is one that a crash may leave, once its tables are firm.
abbrev pub ImagesAreLeft : Type 0
ImagesAreLeft = (i : Holdings) (schema : Option (List ℕ)) (folders : List ℕ → Option Left) → IsStoreImage i schema folders → IsAfterCrash i (store_left schema folders)
