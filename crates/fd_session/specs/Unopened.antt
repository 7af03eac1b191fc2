-- What is told of a dataset that wasn't opened.
use Rattle.std.specs.Prelude.{ℕ, List, Option}
use Rattle.fd_recovery.specs.declared.fault.OpenFault.{OpenFault}
use Rattle.fd_recovery.specs.declared.fault.OpenFault.TheVariants as faults
use Rattle.fd_stored.specs.declared.status.Status.{Status}
use Rattle.fd_stored.specs.declared.status.Status.TheVariants as statuses
use Rattle.fd_stored.specs.Causes.{BadFile, BadTable, TooManyDatasets, damaged_line, telling}
use Rattle.fd_outcome.specs.Ends.{disk_failed, no_memory}
use Rattle.fd_outcome.specs.Told.{Told, ToldOrNoMemory}

module _ {F : Type 0} where
  -- The line of the fault was written, or a front of it; or that of want of memory in its place.
  abbrev pub ToldUnopened : List ℕ → OpenFault F → Status → Option (List ℕ) → Option (List ℕ) → ℕ → ℕ → Type 0
  ToldUnopened name (faults.Disk f) s c d m n = Told statuses.DiskFault disk_failed s c d m n
  ToldUnopened name (faults.NotATable at want found) s c d m n = ToldOrNoMemory statuses.Damaged (damaged_line name (BadTable (record { at = at; want = want; found = found }))) s c d m n
  ToldUnopened name (faults.Damaged damage) s c d m n = ToldOrNoMemory statuses.Damaged (damaged_line name (BadFile damage)) s c d m n
  ToldUnopened name (faults.TooMany count) s c d m n = Told statuses.Limit (telling TooManyDatasets).line s c d m n
  ToldUnopened name faults.NoMemory s c d m n = Told statuses.NoMemory no_memory s c d m n

  -- a call of the store failed
  abbrev pub OnDisk : OpenFault F → Type 0 → Type 0
  OnDisk (faults.Disk f) P = P
  OnDisk (faults.NotATable at want found) P = Unit {0}
  OnDisk (faults.Damaged damage) P = Unit {0}
  OnDisk (faults.TooMany count) P = Unit {0}
  OnDisk faults.NoMemory P = Unit {0}
