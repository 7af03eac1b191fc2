use Rattle.fd_packing.proofs.Reduced.{reference_reduced}
use Rattle.fd_packing.proofs.ieee.reference_is_exact.Goals as goal

pub returns : goal.returns
returns c = reference_reduced
