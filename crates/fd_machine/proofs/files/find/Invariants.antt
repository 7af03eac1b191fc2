use Rattle.std.proofs.Common.{◌≡◌, length, drop}
use Rattle.fd_machine.specs.Machine.{file_of}
use Rattle.fd_machine.proofs.files.find.Given as goal

abbrev pub invariant-loop-i : goal.invariant-loop-i
invariant-loop-i l = record {
  end : l.i-end ≡ length l.files;
  passed : file_of (drop l.i l.files) l.name ≡ file_of l.files l.name;
}
