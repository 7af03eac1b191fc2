use Rattle.std.proofs.Common.{◌≡◌, ◌-◌, ◌++◌, length, take, drop}
use Rattle.fd_machine.specs.Machine.{kept_files}
use Rattle.fd_machine.proofs.files.keep_listed.Given as goal

abbrev pub invariant-each : goal.invariant-each
invariant-each l = take l.i l.files ++ kept_files l.entries (drop l.i l.files) ≡ kept_files l.entries l.fn.files

abbrev pub decreases-each : goal.decreases-each
decreases-each l = length l.files - l.i
