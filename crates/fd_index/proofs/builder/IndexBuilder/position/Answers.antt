use Rattle.std.proofs.Common.{◌≡◌, ◌∙◌, ◌+◌, ◌-◌, ◌/◌, ◌≤◌, ◌<◌, List, Some, option_map, slice_get, sym, ap, subst, arith, nat_cmp}
use Rattle.std.specs.Cmp.Lexicographic.{slice_cmp}
use Rattle.std.proofs.lemmas.Option.{slice_get-map}
use Rattle.std.proofs.lemmas.Map.Lookups.{exact_bytes}
use Rattle.fd_index.specs.Held.{Held}
use Rattle.fd_index.specs.Records.{Rising}
use Rattle.fd_index.proofs.Searching.{higher, lower, pair_of, pairs_of}
use Rattle.fd_index.proofs.Placing.{is_position, no_position}
use Rattle.fd_index.proofs.builder.IndexBuilder.position.Goals as goal

pub halves-preserved-in-Less : goal.halves-preserved-in-Less
halves-preserved-in-Less c =
    let rs = c.args.self.now.records in
    let m = c.halves.low + (c.halves.high - c.halves.low) / 2 in
    lower c.args.key.now rs c.halves.low c.halves.high m c.key_at.ensures.r (subst (λ (h : Held). Rising h.records) c.self.view_is c.self.invariant.rising) c.halves.invariant (omega arith) (omega (arith, c.halves-test.true))
    (slice_get-map pair_of rs m ∙ ap (option_map pair_of) c.key_at.ensures.at) (ap (slice_cmp nat_cmp c.args.key.now) c.key_at.ensures.is ∙ sym c.in-Less.ensures)

pub halves-preserved : goal.halves-preserved
halves-preserved c =
    let rs = c.args.self.now.records in
    let m = c.halves.low + (c.halves.high - c.halves.low) / 2 in
    higher c.args.key.now rs c.halves.low c.halves.high m c.key_at.ensures.r (subst (λ (h : Held). Rising h.records) c.self.view_is c.self.invariant.rising) c.halves.invariant (omega arith) (omega (arith, c.halves-test.true))
    (slice_get-map pair_of rs m ∙ ap (option_map pair_of) c.key_at.ensures.at) (ap (slice_cmp nat_cmp c.args.key.now) c.key_at.ensures.is ∙ sym c.in-Greater.ensures)

pub returns-in-Equal : goal.returns-in-Equal
returns-in-Equal c =
    is_position c.args.key.now c.args.self.now.records (c.halves.low + (c.halves.high - c.halves.low) / 2) c.key_at.ensures.r (subst (λ (h : Held). Rising h.records) c.self.view_is c.self.invariant.rising)
    c.key_at.ensures.at (c.key_at.ensures.is ∙ sym (exact_bytes c.args.key.now c.key_at.result.now (sym c.in-Equal.ensures)))
    (ap (slice_cmp nat_cmp c.args.key.now) c.key_at.ensures.is ∙ sym c.in-Equal.ensures)

pub returns : goal.returns
returns c =
    no_position c.args.key.now c.args.self.now.records c.halves.low c.halves.high (subst (λ (h : Held). Rising h.records) c.self.view_is c.self.invariant.rising) c.halves.invariant c.halves-test.false
