use Rattle.std.proofs.Common.{◌≡◌, drop}
use Rattle.fd_layers.specs.Based.{has_names}
use Rattle.fd_layers.proofs.placing.has_names.Given as goal

abbrev pub invariant-loop-i : goal.invariant-loop-i
invariant-loop-i l = has_names l.key l.layer ≡ has_names l.key (drop l.i l.layer)
