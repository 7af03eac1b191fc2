use Rattle.fd_machine.proofs.PutSteps.{unput}
use Rattle.fd_machine.proofs.writers.push_pair.Goals as goal

pub returns-clause-err : goal.returns-clause-err
returns-clause-err c = unput c.push.result c.args.writers.now c.args.i c.at_mut.result.now c.push.new.self c.at_mut.ensures.value c.push.ensures.err
