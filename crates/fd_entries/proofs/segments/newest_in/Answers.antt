use Rattle.std.proofs.Common.{◌≡◌, ◌++◌, [], ◌∷◌, ℕ, List, length, Option, Some, None, MatchOption, Bor, sym, ◌∙◌, ap, subst, refl, arith}
use Rattle.std.proofs.lemmas.Bool.{eqb-true}
use Rattle.fd_entries.specs.Batches.{of_batch, same_bytes}
use Rattle.fd_entries.proofs.BatchSums.{same_as_eq}
use Rattle.fd_entries.proofs.RowReading.{all_rows, bytes_read, found_all, found_before, found_here, key_read, next_row, numbers, one_row, row_long, some_left, unread}
use Rattle.fd_entries.proofs.segments.newest_in.Goals as goal
use Rattle.fd_entries.proofs.segments.newest_in.Goals.{then-eq, else-eq}

pub rows-init : goal.rows-init
rows-init c = λ h. (unread c.args.index.now c.args.fields.now h, refl)

pub first_row-row-requires-clause-short : goal.first_row-row-requires-clause-short
first_row-row-requires-clause-short c =
    let u = (c.rows.invariant c.requires).0 in
    let r = one_row c.requires.batch c.rows.rest.now c.args.fields.now u (some_left (length c.rows.rest.now) (sym c.is_empty.ensures ∙ c.rows-test.true)) in
    omega (arith, r.facts.long)

pub first_row-row-requires-clause-long : goal.first_row-row-requires-clause-long
first_row-row-requires-clause-long c =
    let u = (c.rows.invariant c.requires).0 in
    let r = one_row c.requires.batch c.rows.rest.now c.args.fields.now u (some_left (length c.rows.rest.now) (sym c.is_empty.ensures ∙ c.rows-test.true)) in
    row_long c.rows.rest.now u.at r.pair r.others r.facts

pub part-requires : goal.part-requires
part-requires c =
    let u = (c.rows.invariant c.requires).0 in
    let r = one_row c.requires.batch c.rows.rest.now c.args.fields.now u (some_left (length c.rows.rest.now) (sym c.is_empty.ensures ∙ c.rows-test.true)) in
    let n = numbers c.rows.rest.now u.at r.pair r.others r.facts c.first_row-row.result.key_len c.first_row-row.result.at c.first_row-row.result.len c.first_row-row.ensures.key_len c.first_row-row.ensures.at c.first_row-row.ensures.len in
    omega (arith, r.facts.long, n.key_len)

pub part-requires-then-eq : goal.part-requires-then-eq
part-requires-then-eq c =
    let u = (c.rows.invariant c.requires).0 in
    let r = one_row c.requires.batch c.rows.rest.now c.args.fields.now u (some_left (length c.rows.rest.now) (sym c.is_empty.ensures ∙ c.rows-test.true)) in
    let n = numbers c.rows.rest.now u.at r.pair r.others r.facts c.first_row-row.result.key_len c.first_row-row.result.at c.first_row-row.result.len c.first_row-row.ensures.key_len c.first_row-row.ensures.at c.first_row-row.ensures.len in
    omega (arith, r.fits, n.place, n.len)

pub overflow_add-row : goal.overflow_add-row
overflow_add-row c =
    let u = (c.rows.invariant c.requires).0 in
    let r = one_row c.requires.batch c.rows.rest.now c.args.fields.now u (some_left (length c.rows.rest.now) (sym c.is_empty.ensures ∙ c.rows-test.true)) in
    let n = numbers c.rows.rest.now u.at r.pair r.others r.facts c.first_row-row.result.key_len c.first_row-row.result.at c.first_row-row.result.len c.first_row-row.ensures.key_len c.first_row-row.ensures.at c.first_row-row.ensures.len in
    omega (arith, r.key_short, n.key_len)

pub behind-rest-requires : goal.behind-rest-requires
behind-rest-requires c =
    let u = (c.rows.invariant c.requires).0 in
    let r = one_row c.requires.batch c.rows.rest.now c.args.fields.now u (some_left (length c.rows.rest.now) (sym c.is_empty.ensures ∙ c.rows-test.true)) in
    let n = numbers c.rows.rest.now u.at r.pair r.others r.facts c.first_row-row.result.key_len c.first_row-row.result.at c.first_row-row.result.len c.first_row-row.ensures.key_len c.first_row-row.ensures.at c.first_row-row.ensures.len in
    omega (arith, r.facts.long, n.key_len)

pub rows-preserved : goal.rows-preserved
rows-preserved c = λ h.
    let u = (c.rows.invariant h).0 in
    let was = (c.rows.invariant h).1 in
    let r = one_row h.batch c.rows.rest.now c.args.fields.now u (some_left (length c.rows.rest.now) (sym c.is_empty.ensures ∙ c.rows-test.true)) in
    let n = numbers c.rows.rest.now u.at r.pair r.others r.facts c.first_row-row.result.key_len c.first_row-row.result.at c.first_row-row.result.len c.first_row-row.ensures.key_len c.first_row-row.ensures.at c.first_row-row.ensures.len in
    let more = next_row h.batch c.rows.rest.now c.args.fields.now u r c.behind-rest.result.now c.first_row-row.result.key_len n.key_len c.behind-rest.ensures in
    let key : c.part.result.now ≡ r.pair.key = c.part.ensures ∙ key_read c.rows.rest.now u.at r.pair r.others r.facts c.first_row-row.result.key_len n.key_len in
    let test : same_bytes r.pair.key c.args.key.now ≡ c.eq.result = ap (λ (l : List ℕ). same_bytes l c.args.key.now) (sym key) ∙ same_as_eq c.part.result.now c.args.key.now ∙ sym c.eq.ensures in (
      more,
      elim c.if-eq.branch [
        | then-eq w ↦ (
            let bytes : w.part-then-eq.result.now ≡ r.pair.bytes = w.part-then-eq.ensures ∙ bytes_read h.batch c.rows.rest.now c.args.fields.now u r c.first_row-row.result.at c.first_row-row.result.len n.place n.len in
            subst (λ (o : Option (Bor (List ℕ))). MatchOption o (of_batch (u.done ++ r.pair ∷ []) c.args.key.now ≡ None) (λ b. of_batch (u.done ++ r.pair ∷ []) c.args.key.now ≡ Some b.now)) (sym w.found-is) (found_here u.done r.pair c.args.key.now w.part-then-eq.result.now (test ∙ w.if-eq.true) bytes))
        | else-eq w ↦ subst (λ (o : Option (Bor (List ℕ))). MatchOption o (of_batch (u.done ++ r.pair ∷ []) c.args.key.now ≡ None) (λ b. of_batch (u.done ++ r.pair ∷ []) c.args.key.now ≡ Some b.now)) (sym w.found-is) (found_before u.done r.pair c.args.key.now c.rows.found (λ b. b.now) (test ∙ w.if-eq.false) was)
      ],
    )

pub returns : goal.returns
returns c =
    let u = (c.rows.invariant c.requires).0 in
    let none = eqb-true (length c.rows.rest.now) 0 (sym c.is_empty.ensures ∙ c.rows-test.false) in
    found_all c.args.index.now c.args.fields.now c.requires c.args.key.now u.done c.rows.found (λ b. b.now) (all_rows c.requires.batch c.rows.rest.now c.args.fields.now u none) (c.rows.invariant c.requires).1
