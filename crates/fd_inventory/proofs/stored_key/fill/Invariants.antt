use Rattle.std.proofs.Common.{◌≡◌, ◌++◌, true, drop}
use Rattle.fd_key.specs.Given.{differ_after}
use Rattle.fd_inventory.proofs.stored_key.fill.Given as goal

abbrev pub invariant-loop-i : goal.invariant-loop-i
invariant-loop-i l = (l.room ++ drop l.i l.pairs ≡ l.pairs) × (differ_after l.room (drop l.i l.pairs) ≡ true)
