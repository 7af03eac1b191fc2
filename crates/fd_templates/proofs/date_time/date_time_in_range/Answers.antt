use Rattle.std.proofs.Common.{arith}
use Rattle.fd_templates.proofs.date_time.date_time_in_range.Goals as goal

pub returns : goal.returns
returns c = record { year = omega arith; month = omega arith; day = omega arith; hour = omega arith; minute = omega arith; second = omega arith }
