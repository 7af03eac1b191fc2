use Rattle.std.proofs.Common.{arith}
use Rattle.std.specs.Prelude.{Some}
use Rattle.std.proofs.lemmas.List.Elements.{All-pop}
use Rattle.fd_request.specs.Expansion.{expand}
use Rattle.fd_cubes.specs.declared.grid.Grid as code_grid
use Rattle.fd_cubes.specs.Cubes.{AreKeys}
use Rattle.fd_cubes.specs.Grids.{seen_grid, IsGrid}
use Rattle.fd_cubes.proofs.Finished.{each_keys, cubes_start, cubes_more, cubes_end}
use Rattle.fd_cubes.proofs.finishing.cubes_of.Goals as goal

pub loop-grid-init : goal.loop-grid-init
loop-grid-init c = record { cubes = cubes_start c.args.grids.items _ c.new-done.ensures.items; others = c.requires.grids; keys = each_keys c.args.grids.items c.requires.keys }

pub cube_of-requires : goal.cube_of-requires
cube_of-requires c = record {
  grid = (All-pop IsGrid c.loop-grid.left.items c.pop.new.self.items (Some c.in-Some.grid) c.in-Some.ensures.items c.loop-grid.invariant.others).1;
  keys = (All-pop (λ (g : code_grid.Grid). AreKeys (expand (seen_grid g))) c.loop-grid.left.items c.pop.new.self.items (Some c.in-Some.grid) c.in-Some.ensures.items c.loop-grid.invariant.keys).1;
}

pub loop-grid-preserved : goal.loop-grid-preserved
loop-grid-preserved c = record {
  cubes = cubes_more c.args.grids.items c.loop-grid.left.items c.pop.new.self.items c.loop-grid.done.items c.push.new.self.items c.in-Some.grid c.in_ok-cube_of.field-0 c.in-Some.ensures.items c.in_ok-push.ensures.items c.in_ok-cube_of.ensures c.loop-grid.invariant.cubes;
  others = (All-pop IsGrid c.loop-grid.left.items c.pop.new.self.items (Some c.in-Some.grid) c.in-Some.ensures.items c.loop-grid.invariant.others).0;
  keys = (All-pop (λ (g : code_grid.Grid). AreKeys (expand (seen_grid g))) c.loop-grid.left.items c.pop.new.self.items (Some c.in-Some.grid) c.in-Some.ensures.items c.loop-grid.invariant.keys).0;
}

pub returns : goal.returns
returns c =
    let e = rw c.in_default.is at c.pop.ensures.cases in
    cubes_end c.args.grids.items c.loop-grid.left.items c.loop-grid.done.items (omega (arith, e.0, c.loop-grid.left.ok.0)) c.loop-grid.invariant.cubes
