use Rattle.fd_request.specs.Expansion.{expand}
use Rattle.fd_schema.specs.Reading.{seen_place}
use Rattle.fd_casting.proofs.Verdicts.{inside_at}
use Rattle.fd_casting.proofs.judging.is_inside.Goals as goal

pub returns-in-Ok-clause-judged : goal.returns-in-Ok-clause-judged
returns-in-Ok-clause-judged c = inside_at c.args.schema.now c.args.dataset.now (expand c.args.request.now) c.args.number c.in_ok-key.key (seen_place c.in-Ok.field-0) c.in_ok-key.ensures.key c.in-Ok.ensures.place c.in-Ok.ensures.dataset
