use Rattle.std.proofs.Common.{◌≡◌, ◌≤◌, ◌-◌, ◌+◌, length, drop}
use Rattle.fd_tokens.specs.Tokens.{view, views, parts}
use Rattle.fd_schema.specs.Grammar.{each_of, item_in, items_of}
use Rattle.fd_schema.specs.Seen.{seen_items}
use Rattle.fd_schema.proofs.items.items_of.Given as goal

abbrev pub invariant-parts : goal.invariant-parts
invariant-parts l = (l.from ≤ length l.tokens) × (each_of (item_in l.version l.level) (seen_items l.items.items) (parts 44 (view l.stop) (views (drop l.from l.tokens))) ≡ items_of l.version l.level (seen_items l.fn.before.items) (view l.stop) (views l.tokens))

abbrev pub decreases-parts : goal.decreases-parts
decreases-parts l = (length l.tokens + 1) - l.from
