use Rattle.std.proofs.Common.{ℕ, ◌≡◌, ◌+◌, ◌++◌, length, drop, ap, ◌∙◌, arith}
use Rattle.fd_entries.specs.declared.batch.Pair.{Pair}
use Rattle.fd_entries.specs.Batches.{rows_from}
use Rattle.fd_entries.proofs.BatchSums.{keys_step, total_step, rows_written}
use Rattle.fd_entries.proofs.rows.rows_of.Goals as goal

pub push_row-requires : goal.push_row-requires
push_row-requires c = (keys_step c.args.batch.now c.loop-i.i c.at.result.now c.at.ensures c.loop-i.invariant.keys).0

pub loop-i-preserved : goal.loop-i-preserved
loop-i-preserved c =
    let same : c.at-in-loop-i.result.now ≡ c.at.result.now = cc (c.at.ensures, c.at-in-loop-i.ensures) in
    let len : length c.as_slice.result.now ≡ length c.at.result.now.bytes = ap length c.as_slice.ensures ∙ ap (λ (p : Pair). length p.bytes) same in
    let step = total_step c.args.batch.now c.loop-i.i c.at.result.now c.at.ensures in
    record {
      end = c.loop-i.invariant.end;
      keys = (keys_step c.args.batch.now c.loop-i.i c.at.result.now c.at.ensures c.loop-i.invariant.keys).1;
      sum = omega (arith, step, len, c.loop-i.invariant.sum);
      so_far = ap (λ (n : ℕ). c.push_row.new.rows.items ++ rows_from (c.loop-i.at + n) (drop (c.loop-i.i + 1) c.args.batch.now)) len
          ∙ rows_written c.loop-i.rows.items c.push_row.new.rows.items c.args.batch.now c.loop-i.i c.loop-i.at c.at.result.now c.at.ensures c.in_ok-push_row.ensures c.loop-i.invariant.so_far;
    }
