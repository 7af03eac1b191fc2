use Rattle.fd_shares.proofs.Dealing.{are_as_one}
use Rattle.fd_bulk.proofs.laws.every_dealing.Goals as goal

pub returns : goal.returns
returns c = are_as_one
