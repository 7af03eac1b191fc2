use Rattle.std.proofs.Common.{◌≡◌, drop}
use Rattle.fd_schema.specs.Rules.{has_name}
use Rattle.fd_schema.specs.Seen.{seen_items}
use Rattle.fd_schema.proofs.items.has_name.Given as goal

abbrev pub invariant-loop-item : goal.invariant-loop-item
invariant-loop-item l = has_name (seen_items l.items) l.name ≡ has_name (seen_items (drop l.item-index l.items)) l.name
