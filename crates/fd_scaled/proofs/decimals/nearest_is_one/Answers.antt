use Rattle.fd_scaled.proofs.Nearest.{nearest_is_one}
use Rattle.fd_scaled.proofs.decimals.nearest_is_one.Goals as goal

pub returns : goal.returns
returns c = nearest_is_one
