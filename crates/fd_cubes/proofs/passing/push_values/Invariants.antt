use Rattle.std.proofs.Common.{◌≡◌, ◌++◌, drop, string_bytes}
use Rattle.fd_spelling.specs.Texts.{texts}
use Rattle.fd_cubes.specs.Axes.{values_code}
use Rattle.fd_cubes.proofs.passing.push_values.Given as goal

abbrev pub invariant-loop-value : goal.invariant-loop-value
invariant-loop-value l = string_bytes l.out ++ values_code (texts (drop l.value-index l.values)) ≡ string_bytes l.initial.out ++ values_code (texts l.values)
