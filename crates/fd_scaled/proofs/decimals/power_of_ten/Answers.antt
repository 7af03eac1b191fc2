use Rattle.std.proofs.Common.{◌≤◌, ◌<◌, arith}
use Rattle.std.proofs.Math.Nat.{pow-le-pow_right, one-le-pow}
use Rattle.fd_scaled.proofs.decimals.power_of_ten.Goals as goal

pub pow-requires : goal.pow-requires
pow-requires c = let positive : 0 < 10 = omega arith in let within : c.from.result ≤ 30 = omega arith in omega (arith, pow-le-pow_right positive within)

pub returns-clause-positive : goal.returns-clause-positive
returns-clause-positive c = let positive : 0 < 10 = omega arith in omega (arith, one-le-pow c.from.result 10 positive)
