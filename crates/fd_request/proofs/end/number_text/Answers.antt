use Rattle.std.proofs.Common.{ap, ◌∙◌}
use Rattle.fd_spelling.specs.Names.{is_value}
use Rattle.fd_request.proofs.Ends.{signed_value}
use Rattle.fd_request.proofs.end.number_text.Goals as goal

pub returns-clause-value : goal.returns-clause-value
returns-clause-value c = ap is_value c.in_ok-format.ensures.ok ∙ signed_value c.args.number.now c.requires.low c.requires.high
