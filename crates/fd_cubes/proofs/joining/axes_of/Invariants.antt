use Rattle.std.proofs.Common.{◌≡◌, take}
use Rattle.fd_cubes.specs.Cubes.{alone}
use Rattle.fd_cubes.specs.Axes.{seen_axes}
use Rattle.fd_cubes.proofs.joining.axes_of.Given as goal

abbrev pub invariant-loop-i : goal.invariant-loop-i
invariant-loop-i l = seen_axes l.axes.items ≡ alone (take l.i l.key)
