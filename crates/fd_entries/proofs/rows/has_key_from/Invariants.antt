use Rattle.std.proofs.Common.{◌≡◌, length, drop}
use Rattle.fd_entries.specs.Batches.{has_key}
use Rattle.fd_entries.proofs.rows.has_key_from.Given as goal

abbrev pub invariant-loop-i : goal.invariant-loop-i
invariant-loop-i l = record {
  end : l.i-end ≡ length l.batch;
  so_far : has_key (drop l.i l.batch) l.key ≡ has_key (drop l.from l.batch) l.key;
}
