use Rattle.fd_retriever.proofs.Keeping.{fits_later}
use Rattle.fd_retriever.proofs.laws.every_later_snapshot.Goals as goal

pub returns : goal.returns
returns c = fits_later
