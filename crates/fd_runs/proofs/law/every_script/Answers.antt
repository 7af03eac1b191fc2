use Rattle.fd_runs.proofs.Scripts.{every_script}
use Rattle.fd_runs.proofs.law.every_script.Goals as goal

pub returns : goal.returns
returns g c = every_script _
