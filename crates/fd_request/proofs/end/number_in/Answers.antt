use Rattle.std.proofs.Common.{arith}
use Rattle.std.proofs.lemmas.Int.{ints}
use Rattle.fd_request.proofs.Ends.{number_fits}
use Rattle.fd_request.proofs.end.number_in.Goals as goal

pub returns-in-Some-clause-fits : goal.returns-in-Some-clause-fits
returns-in-Some-clause-fits c = number_fits _ (omega (arith, ints, c.in-Some.ensures.small)) (omega (arith, ints, c.in-Some.ensures.small))
