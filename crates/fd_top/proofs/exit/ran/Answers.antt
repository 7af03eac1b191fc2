use Rattle.fd_top.proofs.exit.ran.Goals as goal

pub returns-clause-served : goal.returns-clause-served
returns-clause-served g c = record { status = c.fdb-status.result; number_is = c.ended.ensures; served = c.fdb-status.ensures.served }
