use Rattle.std.proofs.Common.{◌≤◌, length}
use Rattle.fd_cubes.specs.Grids.{AreSettled, Regroups}
use Rattle.fd_cubes.proofs.gathering.all_joined.Given as goal

abbrev pub invariant-loop-before : goal.invariant-loop-before
invariant-loop-before l = record { keys : Regroups l.fn.grids.items l.grids.items; settled : l.before ≤ length l.grids.items → AreSettled l.grids.items }

abbrev pub decreases-loop-before : goal.decreases-loop-before
decreases-loop-before l = l.before
