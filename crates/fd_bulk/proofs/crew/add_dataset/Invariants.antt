use Rattle.fd_bulk.specs.Halting.{Each, HasOneMore}
use Rattle.fd_bulk.proofs.Turns.{Turned}
use Rattle.fd_bulk.proofs.crew.add_dataset.Given as goal

abbrev pub invariant-loop-w : goal.invariant-loop-w
invariant-loop-w g l = Each (Turned HasOneMore l.w) l.fn.jobs l.jobs
