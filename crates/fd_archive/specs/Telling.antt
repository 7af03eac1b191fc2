-- What is told of why not all is stored.
use Rattle.std.specs.Prelude.{◌≡◌, ◌+◌, ◌++◌, ℕ, Bool, List, codes, Option, Some, string_bytes}
use Rattle.fd_listing.specs.Lines.{line}
use Rattle.fd_sections.specs.declared.refusal.BadAt.{BadAt}
use Rattle.fd_sections.specs.Stream.{Bad_end}
use Rattle.fd_stored.specs.Causes as causes
use Rattle.fd_stored.specs.Causes.{damaged_line, table_full, telling}
use Rattle.fd_outcome.specs.Ends.{disk_failed, input_failed, no_memory}
use Rattle.fd_split.specs.Inputs.{refused}
use Rattle.fd_stored.specs.Refusals.{refusal_line, refusal_status}
use Rattle.fd_outcome.specs.Told.{Told, ToldOrNoMemory}
use Rattle.fd_split.specs.declared.refusal.Refusal.{Refusal}
use Rattle.fd_split.specs.declared.refusal.Refusal.TheVariants as refusals
use Rattle.fd_stored.specs.declared.status.Status.{Status}
use Rattle.fd_stored.specs.declared.status.Status.TheVariants as statuses
use Rattle.fd_bulk.specs.declared.bulk.BulkFault.{BulkFault}
use Rattle.fd_bulk.specs.declared.bulk.BulkFault.TheVariants as faults

-- the refusal of octets that are no message, whatever comes behind them
abbrev pub IsRefusalOf : BadAt → Refusal → Type 0
IsRefusalOf at refusal = (past : Bool) (given : ℕ) → at.number ≡ given + 1 → refused past given (Bad_end at.bad) ≡ Some refusal

-- The status and the line of a refusal, or those of want of memory in their place.
abbrev pub ToldRefusal : Refusal → Status → Option (List ℕ) → Option (List ℕ) → ℕ → ℕ → Type 0
ToldRefusal refusal result c d m n = ToldOrNoMemory (refusal_status refusal) (refusal_line refusal) result c d m n

-- The line of the fault was written, or a front of it; or that of want of memory in its place.
abbrev pub ToldFault : {X : Type 0} → BulkFault X → Status → Option (List ℕ) → Option (List ℕ) → ℕ → ℕ → Type 0
ToldFault (faults.Input f) result c d m n = Told statuses.InputFault input_failed result c d m n
ToldFault (faults.Message at) result c d m n = (refusal : Refusal) × IsRefusalOf at refusal × ToldRefusal refusal result c d m n
ToldFault (faults.NoMap number field) result c d m n = ToldRefusal (refusals.NoMap number field) result c d m n
ToldFault (faults.Cut t) result c d m n = ToldRefusal (refusals.Cut t) result c d m n
ToldFault (faults.Key number fault) result c d m n = ToldRefusal (refusals.Key number fault) result c d m n
ToldFault (faults.NoRule number text) result c d m n = ToldOrNoMemory statuses.Refused (line (codes "refused NoRule " ++ string_bytes text)) result c d m n
ToldFault faults.Disk result c d m n = Told statuses.DiskFault disk_failed result c d m n
ToldFault (faults.NotATable dataset at want found) result c d m n = ToldOrNoMemory statuses.Damaged (damaged_line (string_bytes dataset) (causes.BadTable (record { at = at; want = want; found = found }))) result c d m n
ToldFault (faults.Damaged dataset damage) result c d m n = ToldOrNoMemory statuses.Damaged (damaged_line (string_bytes dataset) (causes.BadFile damage)) result c d m n
ToldFault (faults.TableFull count) result c d m n = Told statuses.Limit table_full result c d m n
ToldFault (faults.TooMany count) result c d m n = Told (telling causes.TooManyDatasets).status (telling causes.TooManyDatasets).line result c d m n
ToldFault faults.InputLimit result c d m n = Told (refusal_status refusals.Input) (refusal_line refusals.Input) result c d m n
ToldFault faults.NoMemory result c d m n = Told statuses.NoMemory no_memory result c d m n
