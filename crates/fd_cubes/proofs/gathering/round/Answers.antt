use Rattle.std.proofs.Common.{◌≤◌, ◌-◌, List, length, subst, arith}
use Rattle.std.specs.List.{All}
use Rattle.fd_cubes.specs.declared.grid.Grid as code_grid
use Rattle.fd_cubes.proofs.Rounds.{rounding_start, rounding_more, rounding_end}
use Rattle.fd_cubes.proofs.gathering.round.Goals as goal

pub loop-place-init : goal.loop-place-init
loop-place-init c = rounding_start c.args.grids.items c.most_names-place.result c.requires (subst (λ (l : List code_grid.Grid). All (λ (g : code_grid.Grid). length g.axes.items ≤ c.most_names-place.result) l) c.deref.ensures.value c.most_names-place.ensures)

pub loop-place-preserved : goal.loop-place-preserved
loop-place-preserved c = rounding_more c.args.grids.items c.loop-place.grids.items c.in_ok-grids.grids.items c.loop-place.place (c.loop-place.place - 1) (omega (arith, c.loop-place-test.true)) c.loop-place.invariant c.in_ok-grids.ensures

pub returns : goal.returns
returns c = rounding_end c.args.grids.items c.loop-place.grids.items c.loop-place.place (omega (arith, c.loop-place-test.false)) c.loop-place.invariant
