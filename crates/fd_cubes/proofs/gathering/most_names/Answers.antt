use Rattle.std.proofs.Common.{◌≤◌, List, length, subst, arith}
use Rattle.std.specs.List.{All}
use Rattle.std.proofs.lemmas.List.{take_all}
use Rattle.fd_cubes.specs.declared.grid.Grid as code_grid
use Rattle.fd_cubes.proofs.Rounds.{names_more, within_max}
use Rattle.fd_cubes.proofs.gathering.most_names.Goals as goal

pub loop-grid-preserved : goal.loop-grid-preserved
loop-grid-preserved c =
    let both = within_max c.loop-grid.most c.len.result c.max-most.result c.max-most.ensures in
    names_more c.args.grids.now c.loop-grid.grid-index c.loop-grid.most c.max-most.result c.grid-item.result c.loop-grid-test.true c.grid-item.is both.0 (omega (arith, both.1, c.len.ensures, c.grid-item.result.axes.ok.0)) c.loop-grid.invariant

pub returns : goal.returns
returns c = subst (λ (l : List code_grid.Grid). All (λ (g : code_grid.Grid). length g.axes.items ≤ c.loop-grid.most) l) (take_all c.loop-grid.grid-index c.args.grids.now c.loop-grid-test.false) c.loop-grid.invariant
