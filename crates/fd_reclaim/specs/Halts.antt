-- Why a dataset isn't purged or wiped, and what is told and left then.
use Rattle.std.specs.Prelude.{◌≡◌, ℕ, List, Option, Some, Result, Ok, Err}
use Rattle.fd_disk.specs.Folders.{Contents, Holdings, folder_at}
use Rattle.fd_schema.specs.Grammar as schemas
use Rattle.fd_schema.specs.Reading.{IsFirst}
use Rattle.fd_schema.specs.Rules.{Rule}
use Rattle.fd_stored.specs.Causes as causes
use Rattle.fd_stored.specs.Causes.{Cause, damaged_line}
use Rattle.fd_outcome.specs.Ends.{disk_failed, no_memory}
use Rattle.fd_outcome.specs.Outcome.{Outcome, refused}
use Rattle.fd_stored.specs.Store.{Stands}
use Rattle.fd_outcome.specs.Told.{Told, ToldOrNoMemory}
use Rattle.fd_stored.specs.declared.status.Status.{Status}
use Rattle.fd_stored.specs.declared.status.Status.TheVariants as statuses
use Rattle.fd_outcome.specs.declared.stored.Unruled.{Unruled}
use Rattle.fd_outcome.specs.declared.stored.Unruled.TheVariants as unruled
use Rattle.fd_purge.specs.declared.fault.PurgeFault.{PurgeFault}
use Rattle.fd_purge.specs.declared.fault.PurgeFault.TheVariants as faults
use Rattle.fd_telling.specs.declared.stop.Broken.TheVariants as brokens
use Rattle.fd_telling.specs.Stops.{ToldAs, ToldSome, seen_broken}
use Rattle.fd_reclaim.specs.declared.halt.Halt.{Halt}
use Rattle.fd_reclaim.specs.declared.halt.Halt.TheVariants as halts

-- the schema has rules
abbrev pub IsRuled : Result (List Rule) Cause → Type 0
IsRuled r = (rules : List Rule) × (r ≡ Ok rules)

module _ {F : Type 0} where
  abbrev pub of_unruled : Unruled F → Halt F
  of_unruled (unruled.Disk f) = halts.Disk f
  of_unruled unruled.Missing = halts.Missing
  of_unruled (unruled.At line kind) = halts.Schema line kind
  of_unruled unruled.NoMemory = halts.NoMemory

  -- what ends the call ends the command
  abbrev pub of_fault : PurgeFault F → Halt F
  of_fault (faults.Disk f) = halts.Disk f
  of_fault (faults.NotATable at want found) = halts.Damaged (brokens.Table at want found)
  of_fault (faults.Damaged d) = halts.Damaged (brokens.File d)
  of_fault (faults.Writers entry writer) = halts.Writers entry writer
  of_fault faults.NoMemory = halts.NoMemory

  -- why the schema has no rules; a fault of the store, or want of memory
  abbrev pub Unrules : Halt F → Result (List Rule) Cause → Type 0
  Unrules (halts.Disk f) r = Unit {0}
  Unrules halts.Missing r = r ≡ Err causes.SchemaMissing
  Unrules (halts.Schema line kind) r = (text : List ℕ) × (fault : schemas.Fault) × IsFirst text line kind fault × (r ≡ Err (causes.InStored text fault))
  Unrules halts.NoDataset r = ⊥
  Unrules (halts.Damaged broken) r = ⊥
  Unrules (halts.Writers entry writer) r = ⊥
  Unrules halts.NoMemory r = Unit {0}

  -- What is said of the outcome, or of the dataset. A fault or want of memory says nothing.
  abbrev pub Says : Halt F → List ℕ → Holdings → Option Outcome → Type 0
  Says (halts.Disk f) dataset h o = Unit {0}
  Says halts.Missing dataset h o = o ≡ Some (refused causes.SchemaMissing)
  Says (halts.Schema line kind) dataset h o = (text : List ℕ) × (fault : schemas.Fault) × IsFirst text line kind fault × (o ≡ Some (refused (causes.InStored text fault)))
  Says halts.NoDataset dataset h o = o ≡ Some (refused causes.NoDataset)
  Says (halts.Damaged broken) dataset h o = Stands dataset (folder_at h dataset) (seen_broken broken)
  Says (halts.Writers entry writer) dataset h o = o ≡ Some (refused (causes.WriterTooGreat entry writer))
  Says halts.NoMemory dataset h o = Unit {0}

  -- A missing schema or dataset leaves the dataset untouched; else it may be under way.
  abbrev pub LeavesHalted : Halt F → (Contents → Contents → Type 0) → Contents → Contents → Type 0
  LeavesHalted (halts.Disk f) under_way = under_way
  LeavesHalted halts.Missing under_way = λ v w. w ≡ v
  LeavesHalted (halts.Schema line kind) under_way = under_way
  LeavesHalted halts.NoDataset under_way = λ v w. w ≡ v
  LeavesHalted (halts.Damaged broken) under_way = under_way
  LeavesHalted (halts.Writers entry writer) under_way = under_way
  LeavesHalted halts.NoMemory under_way = under_way

  -- the line that is written
  abbrev pub ToldHalt : List ℕ → Halt F → Status → Option (List ℕ) → Option (List ℕ) → ℕ → ℕ → Type 0
  ToldHalt dataset (halts.Disk f) result c d m n = Told statuses.DiskFault disk_failed result c d m n
  ToldHalt dataset halts.Missing result c d m n = ToldAs causes.SchemaMissing result c d m n
  ToldHalt dataset (halts.Schema line kind) result c d m n = ToldSome result c d m n × ((text : List ℕ) (fault : schemas.Fault) → IsFirst text line kind fault → ToldAs (causes.InStored text fault) result c d m n)
  ToldHalt dataset halts.NoDataset result c d m n = ToldAs causes.NoDataset result c d m n
  ToldHalt dataset (halts.Damaged broken) result c d m n = ToldOrNoMemory statuses.Damaged (damaged_line dataset (seen_broken broken)) result c d m n
  ToldHalt dataset (halts.Writers entry writer) result c d m n = ToldAs (causes.WriterTooGreat entry writer) result c d m n
  ToldHalt dataset halts.NoMemory result c d m n = Told statuses.NoMemory no_memory result c d m n

  abbrev pub OnDisk : Halt F → Type 0 → Type 0
  OnDisk (halts.Disk f) P = P
  OnDisk halts.Missing P = Unit {0}
  OnDisk (halts.Schema line kind) P = Unit {0}
  OnDisk halts.NoDataset P = Unit {0}
  OnDisk (halts.Damaged broken) P = Unit {0}
  OnDisk (halts.Writers entry writer) P = Unit {0}
  OnDisk halts.NoMemory P = Unit {0}
