use Rattle.std.proofs.Common.{◌≡◌, ◌++◌, drop, true, string_bytes}
use Rattle.fd_spelling.specs.Texts.{texts}
use Rattle.fd_schema.specs.Printed.{values_text}
use Rattle.fd_schema.proofs.printed.push_values.Given as goal

abbrev pub invariant-loop-value : goal.invariant-loop-value
invariant-loop-value l = string_bytes l.out ++ values_text l.first (texts (drop l.value-index l.values)) ≡ string_bytes l.initial.out ++ values_text true (texts l.values)
