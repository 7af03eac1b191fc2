use Rattle.std.proofs.Common.{◌≡◌, ◌+◌, ◌++◌, length, drop}
use Rattle.fd_entries.specs.Batches.{KeysFit, rows_from, total}
use Rattle.fd_entries.proofs.rows.rows_of.Given as goal

abbrev pub invariant-loop-i : goal.invariant-loop-i
invariant-loop-i l = record {
  end : l.i-end ≡ length l.batch;
  keys : KeysFit (drop l.i l.batch);
  sum : l.at + total (drop l.i l.batch) ≡ total l.batch;
  so_far : l.rows.items ++ rows_from l.at (drop l.i l.batch) ≡ rows_from 0 l.batch;
}
