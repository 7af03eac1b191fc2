use Rattle.fd_streams.proofs.PartSteps.{refused_bad}
use Rattle.fd_streams.proofs.parting.unsplit.Goals as goal

pub returns-in-Bad-clause-halted : goal.returns-in-Bad-clause-halted
returns-in-Bad-clause-halted g c = λ a wrong is. refused_bad a c.args.number wrong c.in-Bad.bad c.refusal_of.result (rw c.in-Bad.is at is) c.requires c.refusal_of.ensures
