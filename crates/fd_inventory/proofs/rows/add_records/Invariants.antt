use Rattle.std.proofs.Common.{◌≡◌, ◌≤◌, ◌+◌, ◌++◌, ◌∷◌, List, length, drop}
use Rattle.fd_entries.specs.declared.batch.Pair.{Pair}
use Rattle.fd_inventory.specs.Keys.{HasLead}
use Rattle.fd_inventory.specs.Shown.{AreLengths, AreRows}
use Rattle.fd_outcome.specs.Rows.{rows_from, rows_of_batch}
use Rattle.fd_inventory.proofs.rows.add_records.Given as goal

abbrev pub invariant-loop-left : goal.invariant-loop-left
invariant-loop-left l = record {
  few : l.left ≤ length l.fn.index;
  lead : HasLead l.fn.dataset l.reader;
  rows : (front later : List (List Pair)) (b : List Pair) → AreLengths l.fn.index b → l.fn.number ≡ 1 + length front
      → AreRows l.fn.rows.entries (rows_from l.fn.dataset l.fn.partial (front ++ b ∷ later) later)
      → AreRows l.rows.entries (rows_of_batch l.fn.dataset l.fn.partial (front ++ b ∷ later) (drop l.left b) (rows_from l.fn.dataset l.fn.partial (front ++ b ∷ later) later));
}

abbrev pub decreases-loop-left : goal.decreases-loop-left
decreases-loop-left l = l.left
