use Rattle.fd_request.proofs.Reaches.{goes_up_to}
use Rattle.fd_request.proofs.laws.range_to_its_end.Goals as goal

pub returns : goal.returns
returns c = goes_up_to
