use Rattle.fd_outcome.proofs.Again.{splits_again}
use Rattle.fd_outcome.proofs.every_split_input.Goals as goal

pub returns : goal.returns
returns c = splits_again
