use Rattle.std.proofs.Common.{◌≡◌, drop}
use Rattle.fd_layered.specs.Chains.{first_some}
use Rattle.fd_layered.proofs.nearest.first_of.Given as goal

abbrev pub invariant-loop-i : goal.invariant-loop-i
invariant-loop-i l = first_some l.chain ≡ first_some (drop l.i l.chain)
