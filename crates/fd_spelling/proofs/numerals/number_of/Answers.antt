use Rattle.std.proofs.Common.{arith}
use Rattle.fd_spelling.proofs.Digits.{front_fits, one_more}
use Rattle.fd_spelling.proofs.numerals.number_of.Goals as goal

pub overflow_mul-number : goal.overflow_mul-number
overflow_mul-number c = omega (arith, c.loop-b.invariant, front_fits c.args.digits.now c.loop-b.b-index c.requires.digits c.requires.few)

pub overflow_add-number : goal.overflow_add-number
overflow_add-number c = omega (arith, c.loop-b.invariant, front_fits c.args.digits.now c.loop-b.b-index c.requires.digits c.requires.few)

pub loop-b-preserved : goal.loop-b-preserved
loop-b-preserved c = one_more c.args.digits.now c.loop-b.b-index c.loop-b.number c.digit.result (omega arith) c.loop-b.invariant c.digit.ensures.value

pub returns-clause-fits : goal.returns-clause-fits
returns-clause-fits c = omega (arith, c.loop-b.invariant, front_fits c.args.digits.now c.loop-b.b-index c.requires.digits c.requires.few)
