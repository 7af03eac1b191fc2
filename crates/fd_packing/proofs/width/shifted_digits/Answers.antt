use Rattle.std.proofs.Common.{arith}
use Rattle.fd_packing.proofs.Digits.{shifted_digits_are}
use Rattle.fd_packing.proofs.width.shifted_digits.Goals as goal

pub returns-else-x-eq0 : goal.returns-else-x-eq0
returns-else-x-eq0 c = shifted_digits_are c.args.x c.args.by (omega arith) (omega arith)
