use Rattle.fd_cubes.proofs.Seen.{alone_more}
use Rattle.fd_cubes.proofs.joining.axes_of.Goals as goal

pub loop-i-preserved : goal.loop-i-preserved
loop-i-preserved c = alone_more c.args.key.now c.loop-i.i c.loop-i.axes.items c.push.new.self.items c.in_ok-axis_of.field-0 _ _ c.loop-i.invariant c.in_ok-push.ensures.items c.in_ok-axis_of.ensures c.pair.ensures
