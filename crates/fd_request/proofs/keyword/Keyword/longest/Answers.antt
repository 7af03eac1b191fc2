use Rattle.std.proofs.Common.{arith}
use Rattle.fd_request.specs.Values.{seen_values}
use Rattle.fd_request.proofs.Lengths.{longest_few}
use Rattle.fd_request.proofs.keyword.Keyword.longest.Goals as goal

pub overflow_cast-result : goal.overflow_cast-result
overflow_cast-result c = omega (arith, c.in_ok-longest.ensures, longest_few (seen_values c.args.self.now.values) c.args.self.now.values_are.all)

pub returns-clause-few : goal.returns-clause-few
returns-clause-few c = omega (arith, c.in_ok-longest.ensures, longest_few (seen_values c.args.self.now.values) c.args.self.now.values_are.all)
