use Rattle.std.proofs.Common.{◌≡◌, ◌≤◌, take}
use Rattle.fd_spelling.specs.Levels.{without_last_zeros}
use Rattle.fd_spelling.proofs.levels.without_last_zeros.Given as goal

abbrev pub invariant-loop-i : goal.invariant-loop-i
invariant-loop-i l = (without_last_zeros (take l.i l.digits) ≡ take l.end l.digits) × (l.end ≤ l.i)
