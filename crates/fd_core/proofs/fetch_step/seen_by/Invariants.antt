use Rattle.std.proofs.Common.{◌≡◌, length, drop}
use Rattle.fd_machine.specs.Machine.{seen_by}
use Rattle.fd_core.proofs.fetch_step.seen_by.Given as goal

abbrev pub invariant-loop-i : goal.invariant-loop-i
invariant-loop-i l = record {
  end : l.i-end ≡ length l.readers;
  so_far : seen_by (drop l.i l.readers) l.r ≡ seen_by l.readers l.r;
}
