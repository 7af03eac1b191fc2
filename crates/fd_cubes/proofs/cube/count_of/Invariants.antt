use Rattle.std.proofs.Common.{◌≡◌, ◌≤◌, drop, length}
use Rattle.fd_request.specs.Expansion.{expand}
use Rattle.fd_cubes.specs.Axes.{seen_axes}
use Rattle.fd_cubes.proofs.cube.count_of.Given as goal

abbrev pub invariant-loop-left : goal.invariant-loop-left
invariant-loop-left l = record { within : l.left ≤ length l.axes; so_far : l.count ≡ length (expand (seen_axes (drop l.left l.axes))) }

abbrev pub decreases-loop-left : goal.decreases-loop-left
decreases-loop-left l = l.left
