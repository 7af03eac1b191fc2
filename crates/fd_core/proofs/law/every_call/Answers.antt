use Rattle.fd_core.proofs.CallSteps.{calls_are_steps}
use Rattle.fd_core.proofs.law.every_call.Goals as goal

pub returns : goal.returns
returns c = calls_are_steps
