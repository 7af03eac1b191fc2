use Rattle.std.proofs.Common.{length}
use Rattle.fd_cubes.specs.Grids.{IsNoting, IsPassing}
use Rattle.fd_cubes.proofs.passing.pass.Given as goal

abbrev pub invariant-loop-grid : goal.invariant-loop-grid
invariant-loop-grid l = record { passing : IsPassing l.fn.place l.fn.grids.items l.done.items l.left.items; noting : IsNoting l.fn.place l.alike l.done.items }

abbrev pub decreases-loop-grid : goal.decreases-loop-grid
decreases-loop-grid l = length l.left.items
