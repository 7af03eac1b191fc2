use Rattle.std.proofs.Common.{rules, ◌≡◌, ◌∙◌, [], ap, sym, subst, string_bytes}
use Rattle.std.specs.BTreeMap.{insert_entry}
use Rattle.std.specs.Map.{lookup, remove_entry}
use Rattle.fd_inventory.specs.Axes.{at_text, entries_or_none, put_pairs, seen_axes, seen_names, text_order, upsert}
use Rattle.fd_inventory.proofs.Upserting.{kept_upsert}
use Rattle.fd_inventory.proofs.axis.add_index.Goals as goal

pub returns : goal.returns
returns c =
    let k = c.in_ok-text.text in
    let w = c.add_pairs.new.names in
    let es = c.args.axes.now.entries in
    let change = put_pairs c.args.pairs.now in
    let text : string_bytes k ≡ c.args.index.now = search rules in
    let seen : seen_names w.entries ≡ change (seen_names (entries_or_none (lookup (at_text c.args.index.now) es))) = c.in_ok-add_pairs.ensures ∙ ap (λ l. change (seen_names l)) c.taken_or_new-names.ensures.entries in
    let there : seen_names w.entries ≡ change (seen_names (entries_or_none (lookup (at_text (string_bytes k)) es))) = subst (λ n. seen_names w.entries ≡ change (seen_names (entries_or_none (lookup (at_text n) es)))) (sym text) seen in
    ap seen_axes c.in_ok-insert.ensures.entries
    ∙ ap (λ l. seen_axes (insert_entry text_order l k w)) c.taken_or_new-names.ensures.left
    ∙ ap (λ n. seen_axes (insert_entry text_order (remove_entry (at_text n) es) k w)) (sym text)
    ∙ kept_upsert seen_names change k w es c.taken_or_new-names.ensures.ordered there
    ∙ ap (λ n. upsert change [] n (seen_axes es)) text
