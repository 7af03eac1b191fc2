use Rattle.std.proofs.Common.{◌≡◌, map, take}
use Rattle.fd_spelling.specs.Texts.{texts}
use Rattle.fd_cubes.specs.Cubes.{cube_text}
use Rattle.fd_cubes.proofs.printing.lines_of.Given as goal

abbrev pub invariant-loop-cube : goal.invariant-loop-cube
invariant-loop-cube l = texts l.lines.items ≡ map cube_text (take l.cube-index l.cubes)
