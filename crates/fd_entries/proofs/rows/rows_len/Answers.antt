use Rattle.std.proofs.Common.{length, ap, arith}
use Rattle.fd_entries.proofs.BatchSums.{rows_step}
use Rattle.fd_entries.proofs.rows.rows_len.Goals as goal

pub overflow_add-len-in-loop-i : goal.overflow_add-len-in-loop-i
overflow_add-len-in-loop-i c =
    let step = rows_step c.args.batch.now c.loop-i.i c.at.result.now c.at.ensures in
    omega (arith, step, ap length c.as_slice.ensures, c.loop-i.invariant.so_far, c.requires)

pub loop-i-preserved : goal.loop-i-preserved
loop-i-preserved c =
    let step = rows_step c.args.batch.now c.loop-i.i c.at.result.now c.at.ensures in
    record { end = c.loop-i.invariant.end; so_far = omega (arith, step, ap length c.as_slice.ensures, c.loop-i.invariant.so_far) }
