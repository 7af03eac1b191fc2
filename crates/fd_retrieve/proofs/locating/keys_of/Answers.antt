use Rattle.std.proofs.Common.{rules, ◌≡◌, ◌∙◌, sym}
use Rattle.fd_retrieve.proofs.LocatingLemmas.{keys_at}
use Rattle.fd_retrieve.proofs.locating.keys_of.Goals as goal

pub returns : goal.returns
returns c =
    let items : c.as_slice.result.now ≡ c.index-groups-number.result.items = search rules in
    items ∙ sym (keys_at c.args.groups.now c.args.number c.index-groups-number.result c.requires c.index-groups-number.is)
