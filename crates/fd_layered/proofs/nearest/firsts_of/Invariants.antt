use Rattle.std.proofs.Common.{◌≡◌, ◌++◌, ◌-◌}
use Rattle.fd_layered.specs.Chains.{firsts}
use Rattle.fd_layered.proofs.nearest.firsts_of.Given as goal

abbrev pub invariant-loop-i : goal.invariant-loop-i
invariant-loop-i l = firsts l.width l.count l.located ≡ l.all.items ++ firsts l.width (l.count - l._i) l.rest
