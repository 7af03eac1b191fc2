use Rattle.std.proofs.Common.{ap, ◌∙◌}
use Rattle.fd_spelling.specs.Texts.{texts}
use Rattle.fd_cubes.proofs.Seen.{at_place_or, past_places}
use Rattle.fd_cubes.proofs.axis.values_at.Goals as goal

pub returns-then-place-axes : goal.returns-then-place-axes
returns-then-place-axes c = ap texts c.deref.ensures.value ∙ at_place_or c.args.place c.args.axes.now c.index-axes-place.result c.if-place-axes.true

pub returns-else-place-axes : goal.returns-else-place-axes
returns-else-place-axes c = past_places c.args.place c.args.axes.now c.if-place-axes.false
