use Rattle.std.proofs.Common.{◌≡◌, ◌+◌, length, drop}
use Rattle.fd_entries.specs.Batches.{rows_from}
use Rattle.fd_entries.proofs.rows.rows_len.Given as goal

abbrev pub invariant-loop-i : goal.invariant-loop-i
invariant-loop-i l = record {
  end : l.i-end ≡ length l.batch;
  so_far : l.len + length (rows_from 0 (drop l.i l.batch)) ≡ length (rows_from 0 l.batch);
}
