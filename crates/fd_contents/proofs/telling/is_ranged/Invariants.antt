use Rattle.std.proofs.Common.{◌≡◌, drop}
use Rattle.fd_outcome.specs.Cubing.{is_ranged}
use Rattle.fd_contents.proofs.telling.is_ranged.Given as goal

abbrev pub invariant-loop-i : goal.invariant-loop-i
invariant-loop-i l = is_ranged l.key ≡ is_ranged (drop l.i l.key)
