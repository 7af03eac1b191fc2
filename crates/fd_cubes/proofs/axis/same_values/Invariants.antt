use Rattle.std.proofs.Common.{◌≡◌, take}
use Rattle.fd_spelling.specs.Texts.{texts}
use Rattle.fd_cubes.proofs.axis.same_values.Given as goal

abbrev pub invariant-loop-i : goal.invariant-loop-i
invariant-loop-i l = texts (take l.i l.one) ≡ texts (take l.i l.other)
