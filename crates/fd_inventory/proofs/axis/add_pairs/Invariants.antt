use Rattle.std.proofs.Common.{◌≡◌, ◌≤◌, length, drop}
use Rattle.fd_inventory.specs.Axes.{put_pairs, seen_names}
use Rattle.fd_inventory.proofs.axis.add_pairs.Given as goal

abbrev pub invariant-loop-left : goal.invariant-loop-left
invariant-loop-left l = record {
  few : l.left ≤ length l.pairs;
  names : seen_names l.names.entries ≡ put_pairs (drop l.left l.pairs) (seen_names l.fn.names.entries);
}

abbrev pub decreases-loop-left : goal.decreases-loop-left
decreases-loop-left l = l.left
