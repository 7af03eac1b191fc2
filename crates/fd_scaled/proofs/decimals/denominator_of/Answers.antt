use Rattle.fd_scaled.proofs.Powers.{denominator_positive}
use Rattle.fd_scaled.proofs.decimals.denominator_of.Goals as goal

pub returns-clause-positive : goal.returns-clause-positive
returns-clause-positive c = denominator_positive c.args.scaled.now c.args.d
