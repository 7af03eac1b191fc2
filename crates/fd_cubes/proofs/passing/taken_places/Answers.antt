use Rattle.fd_cubes.proofs.Taking.{noted_removed}
use Rattle.fd_cubes.proofs.passing.taken_places.Goals as goal

pub returns-in-Some-clause-left : goal.returns-in-Some-clause-left
returns-in-Some-clause-left c = noted_removed c.args.alike.now c.remove.new.self c.args.text.now c.in-Some.ensures.updates
