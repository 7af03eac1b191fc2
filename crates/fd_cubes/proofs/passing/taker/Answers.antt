use Rattle.fd_cubes.proofs.Taking.{none_takes}
use Rattle.fd_cubes.proofs.passing.taker.Goals as goal

pub returns-clause-none : goal.returns-clause-none
returns-clause-none c = λ e. none_takes c.args.place c.args.alike.now c.args.grids.now c.args.grid.now c.args.text.now c.places_at.result.now c.requires.text c.places_at.ensures c.requires.noting (c.first_to_take.ensures.none e)
