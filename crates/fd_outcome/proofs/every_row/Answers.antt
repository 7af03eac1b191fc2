use Rattle.fd_outcome.proofs.Rows.{every}
use Rattle.fd_outcome.proofs.every_row.Goals as goal

pub returns : goal.returns
returns c = every
