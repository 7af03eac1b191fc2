use Rattle.fd_scaled.proofs.Nearest.{answers_are_rounded}
use Rattle.fd_scaled.proofs.Scaled.decimals.Goals as goal

pub returns-clause-rounded : goal.returns-clause-rounded
returns-clause-rounded c = answers_are_rounded c.args.self.now c.args.d c.rounded_text.result c.rounded_text.ensures
