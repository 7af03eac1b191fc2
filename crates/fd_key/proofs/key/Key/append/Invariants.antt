use Rattle.std.proofs.Common.{◌≡◌, ◌++◌, true, drop}
use Rattle.fd_key.specs.Given.{differ_after}
use Rattle.fd_key.proofs.key.Key.append.Given as goal

abbrev pub invariant-loop-i : goal.invariant-loop-i
invariant-loop-i l = (l.self ++ drop l.i l.given ≡ l.initial.self ++ l.given) × (differ_after l.self (drop l.i l.given) ≡ true)
