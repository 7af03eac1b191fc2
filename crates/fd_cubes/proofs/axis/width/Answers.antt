use Rattle.fd_cubes.proofs.Seen.{width_end}
use Rattle.fd_cubes.proofs.axis.width.Goals as goal

pub returns : goal.returns
returns c = width_end c.loop-value.total c.loop-value.value-index c.args.values.now c.loop-value-test.false c.loop-value.invariant.small c.loop-value.invariant.so_far
