use Rattle.std.proofs.Common.{length, ◌++◌}
use Rattle.std.specs.List.{All}
use Rattle.std.specs.List.Sorted.{IsPermutation}
use Rattle.fd_request.specs.Expansion.{expand}
use Rattle.fd_cubes.specs.declared.grid.Grid as code_grid
use Rattle.fd_cubes.specs.Cubes.{AreKeys}
use Rattle.fd_cubes.specs.Grids.{seen_grid, seen_grids, IsGrid}
use Rattle.fd_cubes.proofs.finishing.cubes_of.Given as goal

abbrev pub invariant-loop-grid : goal.invariant-loop-grid
invariant-loop-grid l = record {
  cubes : IsPermutation (seen_grids l.fn.grids.items) (l.done.items ++ seen_grids l.left.items);
  others : All IsGrid l.left.items;
  keys : All (λ (g : code_grid.Grid). AreKeys (expand (seen_grid g))) l.left.items;
}

abbrev pub decreases-loop-grid : goal.decreases-loop-grid
decreases-loop-grid l = length l.left.items
