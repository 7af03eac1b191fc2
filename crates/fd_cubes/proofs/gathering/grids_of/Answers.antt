use Rattle.fd_cubes.proofs.Gathered.{grids_more, each_more}
use Rattle.fd_cubes.proofs.gathering.grids_of.Goals as goal

pub loop-key-preserved : goal.loop-key-preserved
loop-key-preserved c = record {
  each = each_more c.loop-key.grids.items c.push.new.self.items c.in_ok-grid_of.field-0 c.in_ok-push.ensures.items c.loop-key.invariant.each c.in_ok-grid_of.ensures.grid;
  keys = grids_more c.loop-key.grids.items c.push.new.self.items c.in_ok-grid_of.field-0 c.args.keys.now c.loop-key.key-index c.key-item.result c.key-item.result c.in_ok-push.ensures.items c.loop-key.invariant.keys c.in_ok-grid_of.ensures.key c.loop-key-test.true c.key-item.is;
}
