use Rattle.fd_layers.proofs.Laid as laid
use Rattle.fd_layers.proofs.laws.nearest_first.Goals as goal

pub returns : goal.returns
returns c = laid.nearest_first
