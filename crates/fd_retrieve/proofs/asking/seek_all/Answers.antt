use Rattle.std.proofs.Common.{rules, ◌≡◌, ◌<◌, ◌≤◌, ◌+◌, ◌∙◌, get_or, length, sym, subst}
use Rattle.fd_request.specs.Expansion.{expand}
use Rattle.fd_retrieve.specs.Seats.{IsSought}
use Rattle.fd_retrieve.proofs.asking.seek_all.Goals as goal

pub for_each_chunk_mut-requires-clause-accepts : goal.for_each_chunk_mut-requires-clause-accepts
for_each_chunk_mut-requires-clause-accepts g c κs within = λ start p is. (subst (λ n. start + length p.now ≤ n) c.requires.long is.in_bounds, c.requires.few)

pub returns : goal.returns
returns g c =
    let long : length c.for_each_chunk_mut.new.s ≡ length c.args.seats.now = search rules in
    record {
      long = long ∙ c.requires.long;
      each = λ i e lt.
          let r = (c.for_each_chunk_mut.ensures.by_index i e (subst (λ n. i < n) (sym c.requires.long) lt)).1 in
          let one = subst (λ n. IsSought c.args.schema.now (expand c.args.request.now) n (get_or r.after_call.now r.offset e)) r.start_plus_offset (r.call r.offset e r.offset_in_chunk) in
          subst (IsSought c.args.schema.now (expand c.args.request.now) i) r.new_element one;
    }
