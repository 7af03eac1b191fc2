use Rattle.std.proofs.Common.{All, rules, ◌≡◌, ◌+◌, arith, get_or, length, sym, subst}
use Rattle.fd_sheets.specs.Sheets.{IsLookedUp, IsReadable}
use Rattle.fd_sheets.proofs.sheets.look_up_all.Goals as goal

pub for_each_chunk_mut-requires-clause-accepts : goal.for_each_chunk_mut-requires-clause-accepts
for_each_chunk_mut-requires-clause-accepts g c κs within = λ start p is.
    let readable : All IsReadable p.now = λ k e lt. subst IsReadable (sym (is.elements k e lt)) (c.requires.readable (start + k) e (omega (arith, is.in_bounds, lt))) in
    (c.requires.schema, readable)

pub returns : goal.returns
returns g c =
    let long : length c.for_each_chunk_mut.new.s ≡ length c.args.sheets.now = search rules in
    record {
      long = long;
      each = λ i e lt.
          let h = c.for_each_chunk_mut.ensures.by_index i e lt in
          let r = h.1 in
          let one = r.call.each r.offset e r.offset_in_chunk in
          let left = subst (λ y. IsLookedUp c.args.schema.now c.args.given.now (get_or r.argument.now r.offset e) y) r.new_element one in
          subst (λ x. IsLookedUp c.args.schema.now c.args.given.now x (get_or c.for_each_chunk_mut.new.s i e)) r.old_element left;
    }
