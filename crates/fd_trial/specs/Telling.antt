-- What is told of a trial that isn't carried through.
use Rattle.std.specs.Prelude.{ℕ, List, Option}
use Rattle.fd_outcome.specs.Ends.{no_memory}
use Rattle.fd_outcome.specs.Told.{Told}
use Rattle.fd_stored.specs.declared.status.Status.{Status}
use Rattle.fd_stored.specs.declared.status.Status.TheVariants.{NoMemory}
use Rattle.fd_bulk.specs.declared.bulk.BulkFault.{BulkFault}
use Rattle.fd_bulk.specs.declared.bulk.BulkFault.TheVariants as faults
use Rattle.fd_archive.specs.Telling.{ToldFault}

-- a message that can't be made is want of memory
abbrev pub ToldUnstored : {X : Type 0} → BulkFault X → Status → Option (List ℕ) → Option (List ℕ) → ℕ → ℕ → Type 0
ToldUnstored (faults.Input f) result c d m n = Told NoMemory no_memory result c d m n
ToldUnstored fault result c d m n = ToldFault fault result c d m n
