use Rattle.std.proofs.Common.{◌≡◌, drop}
use Rattle.fd_spelling.specs.Levels.{without_first_zeros}
use Rattle.fd_spelling.proofs.levels.without_first_zeros.Given as goal

abbrev pub invariant-loop-i : goal.invariant-loop-i
invariant-loop-i l = without_first_zeros (drop l.i l.digits) ≡ without_first_zeros l.digits
