use Rattle.std.proofs.Common.{◌≡◌, ◌+◌, ◌++◌, true, length, drop}
use Rattle.fd_machine.specs.Machine.{firmed, have_images}
use Rattle.fd_core.proofs.crash_steps.firmed.Given as goal

abbrev pub invariant-loop-i : goal.invariant-loop-i
invariant-loop-i l = record {
  end : l.i-end ≡ length l.files;
  left : have_images (drop l.i l.files) (drop (l.i + 1) l.left) ≡ true;
  so_far : l.firm ++ firmed (drop l.i l.files) (drop (l.i + 1) l.left) ≡ firmed l.files (drop 1 l.left);
}
