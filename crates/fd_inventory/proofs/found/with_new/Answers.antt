use Rattle.std.proofs.Common.{◌≡◌, true, false, string_bytes}
use Rattle.std.specs.BTreeSet.{contains_text}
use Rattle.std.proofs.lemmas.Map.Text.{btree_set_updates_text}
use Rattle.fd_inventory.proofs.Finding.{one_found, unless_there}
use Rattle.fd_inventory.proofs.found.with_new.Goals as goal

pub invariant_of-result-2 : goal.invariant_of-result-2
invariant_of-result-2 c =
    let text = string_bytes c.args.text in
    let new : contains_text c.found.inside.texts text ≡ false = unless_there c.in_ok-insert.field-0 (contains_text c.found.inside.texts text) c.in_ok-insert.ensures.added c.if-not-branch.false in
    rw c.in_ok-push.ensures.items (one_found c.found.inside.keys.items c.args.key c.found.inside.texts c.insert.new.self text (btree_set_updates_text text c.found.inside.texts c.insert.new.self true c.in_ok-insert.ensures.updates) c.requires.text new c.requires.named c.found.invariant)
