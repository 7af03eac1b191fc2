use Rattle.std.proofs.Common.{ap, ◌∙◌}
use Rattle.fd_request.specs.Expansion.{expand}
use Rattle.fd_cubes.proofs.Grids.{made, expand_alone}
use Rattle.fd_cubes.proofs.joining.grid_of.Goals as goal

pub returns-clause-grid : goal.returns-clause-grid
returns-clause-grid c = made c.args.key.now _ c.requires c.in_ok-axes.ensures c.in_ok-size.ensures

pub returns-clause-key : goal.returns-clause-key
returns-clause-key c = ap expand c.in_ok-axes.ensures ∙ expand_alone c.args.key.now
