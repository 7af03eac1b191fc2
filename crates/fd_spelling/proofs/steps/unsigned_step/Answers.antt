use Rattle.std.proofs.Common.{arith}
use Rattle.fd_spelling.proofs.Digits.{count_within, front_digits}
use Rattle.fd_spelling.proofs.steps.unsigned_step.Goals as goal

pub split_at-requires : goal.split_at-requires
split_at-requires c = omega (arith, count_within c.args.text.now, c.digit_count-count.ensures)

pub number_of-requires-clause-digits : goal.number_of-requires-clause-digits
number_of-requires-clause-digits c = rw (c.split_at.ensures.front, c.digit_count-count.ensures) (front_digits c.args.text.now)
