use Rattle.fd_request.proofs.RangeLaws.{range_values}
use Rattle.fd_request.proofs.reading.ranged.Goals as goal

pub returns-in-None-clause-values : goal.returns-in-None-clause-values
returns-in-None-clause-values c = range_values c.in-Some.range
