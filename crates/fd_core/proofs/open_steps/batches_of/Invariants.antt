use Rattle.std.proofs.Common.{◌≡◌, ◌++◌, length, map, drop}
use Rattle.fd_machine.specs.Machine.{batch_in}
use Rattle.fd_machine.specs.Took.{AllHeld}
use Rattle.fd_core.proofs.open_steps.batches_of.Given as goal

abbrev pub invariant-loop-i : goal.invariant-loop-i
invariant-loop-i l = record {
  end : l.i-end ≡ length l.entries;
  held : AllHeld l.files (drop l.i l.entries);
  so_far : l.batches ++ map (batch_in l.files) (drop l.i l.entries) ≡ map (batch_in l.files) l.entries;
}
