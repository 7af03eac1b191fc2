use Rattle.std.proofs.Common.{◌≡◌, length, drop}
use Rattle.fd_machine.specs.Machine.{agrees_from}
use Rattle.fd_core.proofs.crash_steps.agrees.Given as goal

abbrev pub invariant-loop-k : goal.invariant-loop-k
invariant-loop-k l = record {
  firm : l.firm ≡ l.file.firm;
  end : l.k-end ≡ length l.firm;
  so_far : agrees_from l.k l.file (drop l.k l.firm) (drop l.k l.bytes) ≡ agrees_from 0 l.file l.firm l.bytes;
}
