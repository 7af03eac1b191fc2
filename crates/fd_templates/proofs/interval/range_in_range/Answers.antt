use Rattle.std.proofs.Common.{arith}
use Rattle.fd_templates.proofs.interval.range_in_range.Goals as goal

pub returns : goal.returns
returns c = record { process = omega arith; increment_kind = omega arith; unit = omega arith; length = omega arith; increment_unit = omega arith; increment = omega arith }
