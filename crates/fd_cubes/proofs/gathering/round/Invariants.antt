use Rattle.fd_cubes.specs.Grids.{IsRounding}
use Rattle.fd_cubes.proofs.gathering.round.Given as goal

abbrev pub invariant-loop-place : goal.invariant-loop-place
invariant-loop-place l = IsRounding l.fn.grids.items l.grids.items l.place

abbrev pub decreases-loop-place : goal.decreases-loop-place
decreases-loop-place l = l.place
