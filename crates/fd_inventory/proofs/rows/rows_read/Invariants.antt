use Rattle.std.proofs.Common.{◌≤◌, length, drop}
use Rattle.fd_inventory.specs.Keys.{HasLead}
use Rattle.fd_inventory.specs.Shown.{AreRows}
use Rattle.fd_outcome.specs.Rows.{rows_from}
use Rattle.fd_inventory.proofs.Recording.{RestBy}
use Rattle.fd_inventory.proofs.rows.rows_read.Given as goal

abbrev pub invariant-loop-left : goal.invariant-loop-left
invariant-loop-left g l = record {
  few : l.left ≤ length l.fn.snapshot;
  lead : HasLead l.fn.dataset l.reader;
  rows : RestBy l.fn.snapshot l.left (λ t. AreRows l.rows.entries (rows_from l.fn.dataset l.fn.partial t (drop l.left t)));
}

abbrev pub decreases-loop-left : goal.decreases-loop-left
decreases-loop-left g l = l.left
