use Rattle.std.proofs.Common.{List}
use Rattle.fd_inventory.specs.Found.{AreLeft, HaveKeys}
use Rattle.fd_inventory.specs.Shown.{AreRows}
use Rattle.fd_outcome.specs.Rows.{Row}
use Rattle.fd_inventory.proofs.found.with_rows.Given as goal

abbrev pub invariant-loop-texts : goal.invariant-loop-texts
invariant-loop-texts l = (rs : List Row) → HaveKeys l.dataset rs → AreRows l.rows.entries rs → AreLeft l.dataset l.fn.found l.found l.texts-iterator rs
