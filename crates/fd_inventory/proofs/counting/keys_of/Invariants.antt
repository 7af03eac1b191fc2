use Rattle.std.proofs.Common.{◌≤◌, length, drop}
use Rattle.fd_inventory.specs.Counted.{AreKeys}
use Rattle.fd_outcome.specs.Rows.{keys_in}
use Rattle.fd_inventory.proofs.Recording.{RestBy}
use Rattle.fd_inventory.proofs.counting.keys_of.Given as goal

abbrev pub invariant-loop-left : goal.invariant-loop-left
invariant-loop-left g l = record {
  few : l.left ≤ length l.fn.snapshot;
  keys : RestBy l.fn.snapshot l.left (λ t. AreKeys l.keys.entries (keys_in (drop l.left t)));
}

abbrev pub decreases-loop-left : goal.decreases-loop-left
decreases-loop-left g l = l.left
