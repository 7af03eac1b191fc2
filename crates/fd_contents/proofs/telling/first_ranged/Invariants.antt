use Rattle.std.proofs.Common.{◌≡◌, drop}
use Rattle.fd_outcome.specs.Cubing.{first_ranged}
use Rattle.fd_contents.proofs.telling.first_ranged.Given as goal

abbrev pub invariant-loop-key : goal.invariant-loop-key
invariant-loop-key l = first_ranged l.keys ≡ first_ranged (drop l.key-index l.keys)
