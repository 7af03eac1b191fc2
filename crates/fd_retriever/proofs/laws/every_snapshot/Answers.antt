use Rattle.fd_retriever.proofs.Keeping.{those_fit}
use Rattle.fd_retriever.proofs.laws.every_snapshot.Goals as goal

pub returns-clause-those : goal.returns-clause-those
returns-clause-those c = those_fit
