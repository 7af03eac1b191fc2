use Rattle.std.proofs.Common.{◌≡◌, ◌++◌, [], ◌∷◌, List, length, sym, ◌∙◌, ap, arith}
use Rattle.std.proofs.lemmas.Bool.{eqb-true}
use Rattle.fd_entries.specs.declared.batch.Pair.{Pair}
use Rattle.fd_entries.proofs.RowReading.{all_rows, bytes_read, key_read, next_row, numbers, one_row, pairs_held, row_long, same_pair, some_left, unread}
use Rattle.fd_entries.proofs.segments.read_pairs.Goals as goal

pub rows-init : goal.rows-init
rows-init c = λ h. (unread c.args.index.now c.args.fields.now h, sym c.new-batch.ensures)

pub first_row-row-requires-clause-short : goal.first_row-row-requires-clause-short
first_row-row-requires-clause-short c =
    let u = (c.rows.invariant c.requires).0 in
    let r = one_row c.requires.batch c.rows.rest.now c.args.fields.now u (some_left (length c.rows.rest.now) (sym c.is_empty.ensures ∙ c.rows-test.true)) in
    omega (arith, r.facts.long)

pub first_row-row-requires-clause-long : goal.first_row-row-requires-clause-long
first_row-row-requires-clause-long c =
    let u = (c.rows.invariant c.requires).0 in
    let r = one_row c.requires.batch c.rows.rest.now c.args.fields.now u (some_left (length c.rows.rest.now) (sym c.is_empty.ensures ∙ c.rows-test.true)) in
    row_long c.rows.rest.now u.at r.pair r.others r.facts

pub part-requires : goal.part-requires
part-requires c =
    let u = (c.rows.invariant c.requires).0 in
    let r = one_row c.requires.batch c.rows.rest.now c.args.fields.now u (some_left (length c.rows.rest.now) (sym c.is_empty.ensures ∙ c.rows-test.true)) in
    let n = numbers c.rows.rest.now u.at r.pair r.others r.facts c.first_row-row.result.key_len c.first_row-row.result.at c.first_row-row.result.len c.first_row-row.ensures.key_len c.first_row-row.ensures.at c.first_row-row.ensures.len in
    omega (arith, r.facts.long, n.key_len)

pub part-requires-in-rows : goal.part-requires-in-rows
part-requires-in-rows c =
    let u = (c.rows.invariant c.requires).0 in
    let r = one_row c.requires.batch c.rows.rest.now c.args.fields.now u (some_left (length c.rows.rest.now) (sym c.is_empty.ensures ∙ c.rows-test.true)) in
    let n = numbers c.rows.rest.now u.at r.pair r.others r.facts c.first_row-row.result.key_len c.first_row-row.result.at c.first_row-row.result.len c.first_row-row.ensures.key_len c.first_row-row.ensures.at c.first_row-row.ensures.len in
    omega (arith, r.fits, n.place, n.len)

pub overflow_add-row : goal.overflow_add-row
overflow_add-row c =
    let u = (c.rows.invariant c.requires).0 in
    let r = one_row c.requires.batch c.rows.rest.now c.args.fields.now u (some_left (length c.rows.rest.now) (sym c.is_empty.ensures ∙ c.rows-test.true)) in
    let n = numbers c.rows.rest.now u.at r.pair r.others r.facts c.first_row-row.result.key_len c.first_row-row.result.at c.first_row-row.result.len c.first_row-row.ensures.key_len c.first_row-row.ensures.at c.first_row-row.ensures.len in
    omega (arith, r.key_short, n.key_len)

pub behind-rest-requires : goal.behind-rest-requires
behind-rest-requires c =
    let u = (c.rows.invariant c.requires).0 in
    let r = one_row c.requires.batch c.rows.rest.now c.args.fields.now u (some_left (length c.rows.rest.now) (sym c.is_empty.ensures ∙ c.rows-test.true)) in
    let n = numbers c.rows.rest.now u.at r.pair r.others r.facts c.first_row-row.result.key_len c.first_row-row.result.at c.first_row-row.result.len c.first_row-row.ensures.key_len c.first_row-row.ensures.at c.first_row-row.ensures.len in
    omega (arith, r.facts.long, n.key_len)

pub rows-preserved : goal.rows-preserved
rows-preserved c = λ h.
    let u = (c.rows.invariant h).0 in
    let done = (c.rows.invariant h).1 in
    let r = one_row h.batch c.rows.rest.now c.args.fields.now u (some_left (length c.rows.rest.now) (sym c.is_empty.ensures ∙ c.rows-test.true)) in
    let n = numbers c.rows.rest.now u.at r.pair r.others r.facts c.first_row-row.result.key_len c.first_row-row.result.at c.first_row-row.result.len c.first_row-row.ensures.key_len c.first_row-row.ensures.at c.first_row-row.ensures.len in
    let key : c.in_ok-key.key ≡ r.pair.key = c.in_ok-key.ensures ∙ c.part.ensures ∙ key_read c.rows.rest.now u.at r.pair r.others r.facts c.first_row-row.result.key_len n.key_len in
    let bytes : c.in_ok-bytes.bytes ≡ r.pair.bytes = c.in_ok-bytes.ensures ∙ c.part-in-rows.ensures ∙ bytes_read h.batch c.rows.rest.now c.args.fields.now u r c.first_row-row.result.at c.first_row-row.result.len n.place n.len in
    let more = next_row h.batch c.rows.rest.now c.args.fields.now u r c.behind-rest.result.now c.first_row-row.result.key_len n.key_len c.behind-rest.ensures in
    (more, ap (λ (l : List Pair). l ++ r.pair ∷ []) done ∙ ap (λ (p : Pair). c.rows.batch ++ p ∷ []) (sym (same_pair r.pair c.in_ok-key.key c.in_ok-bytes.bytes key bytes)) ∙ sym c.in_ok-push.ensures.ok)

pub returns : goal.returns
returns c =
    let u = (c.rows.invariant c.requires).0 in
    let done = (c.rows.invariant c.requires).1 in
    let none = eqb-true (length c.rows.rest.now) 0 (sym c.is_empty.ensures ∙ c.rows-test.false) in
    sym done ∙ sym (all_rows c.requires.batch c.rows.rest.now c.args.fields.now u none) ∙ sym (pairs_held c.args.index.now c.args.fields.now c.requires)
