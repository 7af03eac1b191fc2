use Rattle.std.proofs.Common.{◌≡◌}
use Rattle.fd_overlay.proofs.over.Over.new.Given as goal

abbrev pub invariant-loop-snapshot : goal.invariant-loop-snapshot
invariant-loop-snapshot g l = record {
  next : (goal.iterator-loop-snapshot g).can_next l.snapshot-iterator;
  ends : (goal.iterator-loop-snapshot g).is_finite l.snapshot-iterator;
  same : l.all.items ≡ l.yielded;
}
