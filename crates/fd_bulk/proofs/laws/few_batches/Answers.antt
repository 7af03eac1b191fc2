use Rattle.fd_shares.proofs.Dealing.{are_few}
use Rattle.fd_bulk.proofs.laws.few_batches.Goals as goal

pub returns : goal.returns
returns c = are_few
