use Rattle.fd_request.proofs.Products.{get-key}
use Rattle.fd_request.proofs.laws.key_by_division.Goals as goal

pub returns : goal.returns
returns c = get-key
