use Rattle.std.proofs.Common.{◌≡◌, length, drop}
use Rattle.fd_machine.specs.Machine.{is_listed}
use Rattle.fd_machine.proofs.files.is_listed.Given as goal

abbrev pub invariant-loop-i : goal.invariant-loop-i
invariant-loop-i l = record {
  end : l.i-end ≡ length l.entries;
  so_far : is_listed (drop l.i l.entries) l.name ≡ is_listed l.entries l.name;
}
