use Rattle.std.proofs.Common.{◌≡◌, ◌++◌, drop, true, string_bytes}
use Rattle.fd_schema.specs.Seen.{seen_items}
use Rattle.fd_schema.specs.Printed.{level_items_text}
use Rattle.fd_schema.proofs.printed.push_level.Given as goal

abbrev pub invariant-loop-item : goal.invariant-loop-item
invariant-loop-item l = string_bytes l.out ++ level_items_text l.first l.level (seen_items (drop l.item-index l.rule)) ≡ string_bytes l.initial.out ++ level_items_text true l.level (seen_items l.rule)
