use Rattle.std.proofs.Common.{◌≡◌, ◌+◌, ◌≤◌, length, drop}
use Rattle.fd_entries.specs.Batches.{distinct}
use Rattle.fd_entries.proofs.rows.distinct_of.Given as goal

abbrev pub invariant-loop-i : goal.invariant-loop-i
invariant-loop-i l = record {
  end : l.i-end ≡ length l.batch;
  few : l.count ≤ l.i;
  so_far : l.count + distinct (drop l.i l.batch) ≡ distinct l.batch;
}
