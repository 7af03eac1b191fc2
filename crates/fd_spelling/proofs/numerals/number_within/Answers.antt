use Rattle.std.proofs.Common.{◌+◌, arith}
use Rattle.fd_spelling.proofs.Digits.{too_large, one_more}
use Rattle.fd_spelling.proofs.numerals.number_within.Goals as goal

pub returns-then-number-from-clause-number : goal.returns-then-number-from-clause-number
returns-then-number-from-clause-number c =
    let more = one_more c.args.digits.now c.loop-b.b-index c.loop-b.number c.digit.result (omega arith) c.loop-b.invariant.0 c.digit.ensures.value in
    too_large c.args.digits.now (c.loop-b.b-index + 1) c.args.most (omega (arith, more))

pub loop-b-preserved : goal.loop-b-preserved
loop-b-preserved c =
    (one_more c.args.digits.now c.loop-b.b-index c.loop-b.number c.digit.result (omega arith) c.loop-b.invariant.0 c.digit.ensures.value, omega arith)
