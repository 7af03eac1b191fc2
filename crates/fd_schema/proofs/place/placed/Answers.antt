use Rattle.std.proofs.Common.{rules, ◌≡◌, ◌++◌, string_bytes, subst}
use Rattle.std.specs.Str.{IsUtf8}
use Rattle.std.proofs.lemmas.Str.{IsUtf8-string_bytes}
use Rattle.fd_schema.specs.declared.rule.Level.TheVariants.{Dataset, Index, Datum}
use Rattle.fd_schema.specs.Rules.{level_text}
use Rattle.fd_schema.specs.Seen.{seen_items}
use Rattle.fd_schema.proofs.Texts.{Joined, are_cut}
use Rattle.fd_schema.proofs.place.placed.Goals as goal

pub invariant_of-result : goal.invariant_of-result
invariant_of-result c =
    let a = level_text Dataset (seen_items c.args.rule.now.items.items) c.args.key.now in
    let b = level_text Index (seen_items c.args.rule.now.items.items) c.args.key.now in
    let d = level_text Datum (seen_items c.args.rule.now.items.items) c.args.key.now in
    let first : string_bytes c.push_level.new.out ≡ a = search rules in
    let second : string_bytes c.push_level-2.new.out ≡ a ++ b = search rules in
    let joined : Joined (string_bytes c.push_level-3.new.out) c.len-index.result c.len-datum.result a b d = record { is = search rules; first = search rules; both = search rules } in
    are_cut (string_bytes c.push_level-3.new.out) c.len-index.result c.len-datum.result a b d (subst IsUtf8 first (IsUtf8-string_bytes c.push_level.new.out)) (subst IsUtf8 second (IsUtf8-string_bytes c.push_level-2.new.out))
    (IsUtf8-string_bytes c.push_level-3.new.out) joined
