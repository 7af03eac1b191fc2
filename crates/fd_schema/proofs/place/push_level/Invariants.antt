use Rattle.std.proofs.Common.{◌≡◌, ◌++◌, drop, string_bytes}
use Rattle.fd_schema.specs.Rules.{level_pairs, level_text}
use Rattle.fd_schema.specs.Seen.{seen_items}
use Rattle.fd_schema.proofs.Texts.{pairs_behind}
use Rattle.fd_schema.proofs.place.push_level.Given as goal

abbrev pub invariant-loop-item : goal.invariant-loop-item
invariant-loop-item l = string_bytes l.out ++ pairs_behind l.is_first (level_pairs l.level (seen_items (drop l.item-index l.rule)) l.key) ≡ string_bytes l.fn.out ++ level_text l.level (seen_items l.rule) l.key
