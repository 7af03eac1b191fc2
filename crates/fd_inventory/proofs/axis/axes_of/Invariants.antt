use Rattle.std.proofs.Common.{List, length}
use Rattle.fd_inventory.specs.Axes.{AreHalfway, HaveData}
use Rattle.fd_inventory.specs.Shown.{AreRows}
use Rattle.fd_outcome.specs.Rows.{Row}
use Rattle.fd_inventory.proofs.axis.axes_of.Given as goal

abbrev pub invariant-loop-texts : goal.invariant-loop-texts
invariant-loop-texts l = (rs : List Row) → HaveData rs → AreRows l.fn.rows.entries rs → AreHalfway l.rows.entries l.axes.entries rs

abbrev pub decreases-loop-texts : goal.decreases-loop-texts
decreases-loop-texts l = length l.rows.entries
