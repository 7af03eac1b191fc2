use Rattle.std.proofs.Common.{arith}
use Rattle.fd_spelling.proofs.Zeros.{last_zero, last_other}
use Rattle.fd_spelling.proofs.levels.without_last_zeros.Goals as goal
use Rattle.fd_spelling.proofs.levels.without_last_zeros.Goals.{then-b-ne48, else-b-ne48}

pub loop-i-preserved : goal.loop-i-preserved
loop-i-preserved c =
    elim c.if-b-ne48.branch [
      | then-b-ne48 w ↦ rw w.end-is (last_other c.args.digits.now c.loop-i.i (omega arith) w.if-b-ne48.true, omega arith)
      | else-b-ne48 w ↦ rw w.end-is (last_zero c.args.digits.now c.loop-i.i c.loop-i.end (omega arith) c.loop-i.invariant.0 w.if-b-ne48.false, omega arith)
    ]
