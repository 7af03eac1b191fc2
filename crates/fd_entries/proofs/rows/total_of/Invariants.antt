use Rattle.std.proofs.Common.{◌≡◌, ◌+◌, length, drop}
use Rattle.fd_entries.specs.Batches.{total}
use Rattle.fd_entries.proofs.rows.total_of.Given as goal

abbrev pub invariant-loop-i : goal.invariant-loop-i
invariant-loop-i l = record {
  end : l.i-end ≡ length l.batch;
  so_far : l.sum + total (drop l.i l.batch) ≡ total l.batch;
}
