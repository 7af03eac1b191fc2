use Rattle.std.proofs.Common.{◌≡◌, ◌+◌, length, drop}
use Rattle.fd_machine.specs.Machine.{have_images}
use Rattle.fd_core.proofs.crash_steps.have_images.Given as goal

abbrev pub invariant-loop-i : goal.invariant-loop-i
invariant-loop-i l = record {
  end : l.i-end ≡ length l.files;
  so_far : have_images (drop l.i l.files) (drop (l.i + 1) l.left) ≡ have_images l.files (drop 1 l.left);
}
