use Rattle.std.proofs.Common.{◌≡◌, drop}
use Rattle.fd_key.specs.Pairs.{text_of}
use Rattle.fd_layers.proofs.placing.value_of.Given as goal

abbrev pub invariant-loop-i : goal.invariant-loop-i
invariant-loop-i l = text_of l.layer l.name ≡ text_of (drop l.i l.layer) l.name
