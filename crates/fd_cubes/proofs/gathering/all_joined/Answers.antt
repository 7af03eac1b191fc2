use Rattle.std.proofs.Common.{arith}
use Rattle.fd_cubes.proofs.Grids.{regrouped_again, regrouped_itself}
use Rattle.fd_cubes.proofs.gathering.all_joined.Goals as goal

pub loop-before-init : goal.loop-before-init
loop-before-init c = record { keys = regrouped_itself c.args.grids.items c.requires; settled = λ le. absurd (omega (arith, le)) }

pub loop-before-preserved : goal.loop-before-preserved
loop-before-preserved c = record {
  keys = regrouped_again c.args.grids.items c.loop-before.grids.items c.in_ok-grids.grids.items c.loop-before.invariant.keys c.in_ok-grids.ensures.regroups;
  settled = λ le. c.in_ok-grids.ensures.settled (omega (arith, le));
}
