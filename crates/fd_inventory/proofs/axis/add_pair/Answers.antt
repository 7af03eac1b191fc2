use Rattle.std.proofs.Common.{rules, ◌≡◌, ◌∙◌, ap, sym, subst, string_bytes}
use Rattle.std.specs.BTreeMap.{insert_entry}
use Rattle.std.specs.Map.{lookup, remove_entry}
use Rattle.fd_outcome.specs.Rows.{order, put}
use Rattle.fd_inventory.specs.Axes.{at_text, entries_or_none, put_pair, seen_names, seen_values, text_order}
use Rattle.fd_inventory.proofs.Upserting.{kept_upsert}
use Rattle.fd_inventory.proofs.axis.add_pair.Goals as goal

pub returns : goal.returns
returns c =
    let k = c.in_ok-text.text in
    let w = c.add_value.new.values in
    let es = c.args.names.now.entries in
    let change = put order c.args.value.now in
    let text : string_bytes k ≡ c.args.name.now = search rules in
    let seen : seen_values w.entries ≡ change (seen_values (entries_or_none (lookup (at_text c.args.name.now) es))) = c.in_ok-add_value.ensures ∙ ap (λ l. change (seen_values l)) c.taken_or_new-values.ensures.entries in
    let there : seen_values w.entries ≡ change (seen_values (entries_or_none (lookup (at_text (string_bytes k)) es))) = subst (λ n. seen_values w.entries ≡ change (seen_values (entries_or_none (lookup (at_text n) es)))) (sym text) seen in
    ap seen_names c.in_ok-insert.ensures.entries
    ∙ ap (λ l. seen_names (insert_entry text_order l k w)) c.taken_or_new-values.ensures.left
    ∙ ap (λ n. seen_names (insert_entry text_order (remove_entry (at_text n) es) k w)) (sym text)
    ∙ kept_upsert seen_values change k w es c.taken_or_new-values.ensures.ordered there
    ∙ ap (λ n. put_pair n c.args.value.now (seen_names es)) text
