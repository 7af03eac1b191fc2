use Rattle.std.proofs.Common.{drop}
use Rattle.fd_layers.proofs.Spelled.{IsUnder}
use Rattle.fd_layers.proofs.placing.under.Given as goal

abbrev pub invariant-loop-i : goal.invariant-loop-i
invariant-loop-i l = IsUnder l.layer l.key l.new (drop l.i l.key)
