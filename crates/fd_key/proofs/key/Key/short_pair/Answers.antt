use Rattle.std.proofs.Common.{◌≡◌, ◌∙◌, ℕ, List, Some, ap, ap₂, sym, string_bytes}
use Rattle.std.specs.Prelude.{slice_get}
use Rattle.fd_key.specs.Pairs.{Pair}
use Rattle.fd_key.specs.Spans.{Entry}
use Rattle.fd_key.proofs.SpanLaws.{cut_out, entry_there, pair_there}
use Rattle.fd_key.proofs.key.Key.short_pair.Goals as goal

pub value_at-requires : goal.value_at-requires
value_at-requires c =
    let e : Entry = (c.in-Some.name.now, c.in-Some.span.now) in
    let there = entry_there (string_bytes c.self.inside.values) c.self.inside.spans.entries c.args.i e c.self.invariant.each (sym c.in-Some.ensures.entry) in
    rw c.as_str-in-Some.ensures.value there.cut

pub returns-in-Some-clause-pair : goal.returns-in-Some-clause-pair
returns-in-Some-clause-pair c =
    let e : Entry = (c.in-Some.name.now, c.in-Some.span.now) in
    let values : List ℕ = string_bytes c.self.inside.values in
    let cut : c.value_at.result.now ≡ cut_out values c.in-Some.span.now = c.value_at.ensures ∙ ap (λ (v : List ℕ). cut_out v c.in-Some.span.now) c.as_str-in-Some.ensures.value in
    ap (λ (ps : List Pair). slice_get ps c.args.i) (sym c.self.view_is)
    ∙ pair_there values c.self.inside.spans.entries c.args.i e (sym c.in-Some.ensures.entry)
    ∙ ap₂ (λ (n v : List ℕ). Some (n, v)) (sym c.as_str.ensures.value) (sym cut)
