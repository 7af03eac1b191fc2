use Rattle.fd_retrieve.specs.Located.{IsFilled}
use Rattle.fd_retrieve.proofs.locating.fill.Given as goal

abbrev pub invariant-loop-i : goal.invariant-loop-i
invariant-loop-i l = IsFilled l.number l.keys l.found l.i l.fn.located l.located
