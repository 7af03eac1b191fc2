use Rattle.fd_numbers.proofs.Numbers.{fewer}
use Rattle.fd_numbers.proofs.laws.no_longer.Goals as goal

pub returns : goal.returns
returns c = λ ns ms d h. fewer ns ms d h
