-- The exit status of the process.
use Rattle.std.specs.Prelude.{ℕ}
use Rattle.fd_stored.specs.declared.status.Status.{Status}
use Rattle.fd_stored.specs.declared.status.Status.TheVariants.{Done, Missed, Words, Refused, InputFault, OutputFault, DiskFault, NoMemory, Damaged, Limit}

abbrev pub code_of : Status → ℕ
code_of Done = 0
code_of Missed = 1
code_of Words = 2
code_of Refused = 3
code_of InputFault = 4
code_of OutputFault = 5
code_of DiskFault = 6
code_of NoMemory = 7
code_of Damaged = 8
code_of Limit = 9
