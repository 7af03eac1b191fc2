use Rattle.std.proofs.Common.{◌≡◌, ◌++◌, drop, string_bytes}
use Rattle.fd_spelling.specs.Texts.{texts}
use Rattle.fd_cubes.specs.Cubes.{more_values}
use Rattle.fd_cubes.proofs.cube.push_more.Given as goal

abbrev pub invariant-loop-value : goal.invariant-loop-value
invariant-loop-value l = string_bytes l.out ++ more_values (texts (drop l.value-index l.values)) ≡ string_bytes l.initial.out ++ more_values (texts l.values)
