use Rattle.fd_request.proofs.Products.{length-expand}
use Rattle.fd_request.proofs.laws.count_of_keys.Goals as goal

pub returns : goal.returns
returns c = length-expand
