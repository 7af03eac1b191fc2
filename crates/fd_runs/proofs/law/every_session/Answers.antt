use Rattle.fd_runs.proofs.Whole.{every_session}
use Rattle.fd_runs.proofs.law.every_session.Goals as goal

pub returns : goal.returns
returns g c = every_session _
