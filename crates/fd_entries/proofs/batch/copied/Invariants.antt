use Rattle.std.proofs.Common.{◌≡◌, length, take}
use Rattle.fd_entries.proofs.batch.copied.Given as goal

abbrev pub invariant-loop-i : goal.invariant-loop-i
invariant-loop-i l = record {
  end : l.i-end ≡ length l.batch;
  copied : l.copy ≡ take l.i l.batch;
}
