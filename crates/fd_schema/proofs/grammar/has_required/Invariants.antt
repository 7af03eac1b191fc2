use Rattle.std.proofs.Common.{◌≡◌, drop}
use Rattle.fd_schema.specs.Grammar.{has_required}
use Rattle.fd_schema.specs.Seen.{seen_items}
use Rattle.fd_schema.proofs.grammar.has_required.Given as goal

abbrev pub invariant-loop-item : goal.invariant-loop-item
invariant-loop-item l = has_required l.level (seen_items l.items) ≡ has_required l.level (seen_items (drop l.item-index l.items))
