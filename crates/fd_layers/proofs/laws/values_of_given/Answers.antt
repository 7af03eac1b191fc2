use Rattle.fd_layers.proofs.Spelled.{given_values}
use Rattle.fd_layers.proofs.laws.values_of_given.Goals as goal

pub returns : goal.returns
returns c = given_values
