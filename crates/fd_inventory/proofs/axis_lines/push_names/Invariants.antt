use Rattle.std.proofs.Common.{◌≡◌, ◌++◌, string_bytes}
use Rattle.fd_inventory.specs.Axes.{names_lines, seen_names}
use Rattle.fd_inventory.proofs.axis_lines.push_names.Given as goal

abbrev pub invariant-loop-name : goal.invariant-loop-name
invariant-loop-name l = string_bytes l.lines ++ names_lines l.dataset l.index (seen_names l.name-iterator) ≡ string_bytes l.fn.lines ++ names_lines l.dataset l.index (seen_names l.names.entries)
