use Rattle.std.proofs.Common.{◌≡◌, ◌++◌, drop, string_bytes}
use Rattle.fd_cubes.specs.Cubes.{cube_text, keywords_text}
use Rattle.fd_cubes.specs.Axes.{seen_axes}
use Rattle.fd_cubes.proofs.cube.text_of.Given as goal

abbrev pub invariant-loop-axis : goal.invariant-loop-axis
invariant-loop-axis l = string_bytes l.out ++ keywords_text (seen_axes (drop l.axis-index l.axes)) ≡ cube_text (seen_axes l.axes)
