use Rattle.fd_numbers.proofs.Numbers.{all_of_them}
use Rattle.fd_numbers.proofs.laws.every_number.Goals as goal

pub returns : goal.returns
returns c = all_of_them
