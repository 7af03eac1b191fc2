use Rattle.std.proofs.Common.{take}
use Rattle.fd_cubes.specs.Axes.{SameBut, seen_axes}
use Rattle.fd_cubes.proofs.axis.same_but.Given as goal

abbrev pub invariant-loop-i : goal.invariant-loop-i
invariant-loop-i l = SameBut l.place (seen_axes (take l.i l.one)) (seen_axes (take l.i l.other))
