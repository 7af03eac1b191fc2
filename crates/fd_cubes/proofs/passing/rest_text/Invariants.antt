use Rattle.std.proofs.Common.{◌≡◌, [], take, string_bytes}
use Rattle.fd_cubes.specs.Axes.{code, seen_axes, with_values}
use Rattle.fd_cubes.proofs.passing.rest_text.Given as goal

abbrev pub invariant-loop-i : goal.invariant-loop-i
invariant-loop-i l = string_bytes l.out ≡ code (with_values l.place [] (seen_axes (take l.i l.axes)))
