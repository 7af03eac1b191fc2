use Rattle.std.proofs.Common.{◌≡◌, ◌++◌, string_bytes}
use Rattle.fd_inventory.specs.Axes.{seen_values}
use Rattle.fd_outcome.specs.Rows.{values_text}
use Rattle.fd_inventory.proofs.AxisLines.{values_left}
use Rattle.fd_inventory.proofs.axis_lines.push_values.Given as goal

abbrev pub invariant-loop-value : goal.invariant-loop-value
invariant-loop-value l = string_bytes l.lines ++ values_left l.is_first (seen_values l.value-iterator) ≡ string_bytes l.fn.lines ++ values_text (seen_values l.values.entries)
