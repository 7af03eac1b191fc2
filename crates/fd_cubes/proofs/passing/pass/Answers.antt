use Rattle.std.proofs.Common.{arith}
use Rattle.fd_cubes.proofs.Rounds.{passing_start, last_is, passing_more, passing_end}
use Rattle.fd_cubes.proofs.Taking.{noting_none}
use Rattle.fd_cubes.proofs.passing.pass.Goals as goal

pub loop-grid-init : goal.loop-grid-init
loop-grid-init c = record {
  passing = passing_start c.args.place c.args.grids.items c.new-done.result.items c.last_value_first.new.grids.items c.new-done.ensures.items c.in_ok-last_value_first.ensures c.requires;
  noting = noting_none c.args.place c.new-alike.result c.new-done.result.items c.new-done.ensures.items;
}

pub loop-grid-preserved : goal.loop-grid-preserved
loop-grid-preserved c = record {
  passing = passing_more c.args.place c.args.grids.items c.loop-grid.done.items c.put.new.grids.items c.loop-grid.left.items c.pop.new.self.items c.in-Some.grid c.in-Some.ensures.items c.loop-grid.invariant.passing c.in_ok-put.ensures.puts;
  noting = c.in_ok-put.ensures.noting;
}

pub put-requires : goal.put-requires
put-requires c = record {
  each = c.loop-grid.invariant.passing.good;
  grid = last_is c.loop-grid.left.items c.pop.new.self.items c.in-Some.grid c.in-Some.ensures.items c.loop-grid.invariant.passing.others;
  settled = c.loop-grid.invariant.passing.settled;
  noting = c.loop-grid.invariant.noting;
}

pub returns : goal.returns
returns c =
    let e = rw c.in_default.is at c.pop.ensures.cases in
    passing_end c.args.place c.args.grids.items c.loop-grid.done.items c.loop-grid.left.items (omega (arith, e.0, c.loop-grid.left.ok.0)) c.loop-grid.invariant.passing
