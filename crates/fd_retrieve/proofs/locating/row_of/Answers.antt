use Rattle.std.proofs.Common.{length, refl}
use Rattle.fd_retrieve.proofs.DatasetLemmas.{get_within}
use Rattle.fd_retrieve.proofs.LocatingLemmas.{row_fits, row_places}
use Rattle.fd_retrieve.proofs.locating.row_of.Goals as goal

pub returns-then-are_a_row : goal.returns-then-are_a_row
returns-then-are_a_row c =
    let keys = c.args.keys.now in
    let first = c.key_at-first.result in
    let row = c.are_a_row.ensures c.if-are_a_row.true in
    let some = get_within keys 0 first c.key_at-first.ensures.is in
    row_places c.args.places.now first keys _ (row_fits (length c.args.places.now) first keys some c.requires row) row refl
