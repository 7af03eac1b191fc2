use Rattle.std.proofs.Common.{◌≡◌, drop}
use Rattle.fd_disk.specs.Images.{is_in}
use Rattle.fd_core.proofs.crash_steps.is_in.Given as goal

abbrev pub invariant-loop-range : goal.invariant-loop-range
invariant-loop-range l = is_in l.place (drop l.range-index l.ranges) ≡ is_in l.place l.ranges
