use Rattle.std.proofs.Common.{◌≤◌, List, ℕ, length, drop}
use Rattle.fd_entries.specs.declared.batch.Pair.{Pair}
use Rattle.fd_inventory.specs.Counted.{AreKeys}
use Rattle.fd_inventory.specs.Shown.{AreLengths}
use Rattle.fd_outcome.specs.Rows.{put_keys}
use Rattle.fd_inventory.proofs.counting.add_keys.Given as goal

abbrev pub invariant-loop-left : goal.invariant-loop-left
invariant-loop-left l = record {
  few : l.left ≤ length l.fn.index;
  keys : (b : List Pair) (ks : List (List ℕ)) → AreLengths l.fn.index b → AreKeys l.fn.keys.entries ks → AreKeys l.keys.entries (put_keys (drop l.left b) ks);
}

abbrev pub decreases-loop-left : goal.decreases-loop-left
decreases-loop-left l = l.left
