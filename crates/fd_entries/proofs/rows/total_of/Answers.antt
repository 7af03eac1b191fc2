use Rattle.std.proofs.Common.{length, ap, arith}
use Rattle.fd_entries.proofs.BatchSums.{total_step}
use Rattle.fd_entries.proofs.rows.total_of.Goals as goal

pub loop-i-preserved : goal.loop-i-preserved
loop-i-preserved c =
    let step = total_step c.args.batch.now c.loop-i.i c.at.result.now c.at.ensures in
    record { end = c.loop-i.invariant.end; so_far = omega (arith, step, ap length c.as_slice.ensures, c.loop-i.invariant.so_far) }
