use Rattle.std.proofs.Common.{◌≡◌, drop}
use Rattle.std.specs.List.{list_all}
use Rattle.fd_schema.specs.Rules.{suits_key}
use Rattle.fd_schema.specs.Seen.{seen_items}
use Rattle.fd_schema.proofs.place.suits_all.Given as goal

abbrev pub invariant-loop-item : goal.invariant-loop-item
invariant-loop-item l = list_all (suits_key l.key) (seen_items l.rule) ≡ list_all (suits_key l.key) (seen_items (drop l.item-index l.rule))
