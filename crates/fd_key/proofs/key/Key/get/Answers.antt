use Rattle.std.proofs.Common.{◌≡◌, ◌∙◌, ℕ, List, Some, None, ap, sym, string_bytes, arith}
use Rattle.fd_key.specs.Pairs.{Pair, text_of}
use Rattle.fd_key.proofs.SpanLaws.{cut_out, entry_there, found, too_long}
use Rattle.fd_key.proofs.key.Key.get.Goals as goal

pub returns-then-name-gt16 : goal.returns-then-name-gt16
returns-then-name-gt16 c =
    sym (ap (λ (ps : List Pair). text_of ps c.args.name.now) (sym c.self.view_is)
    ∙ too_long (string_bytes c.self.inside.values) c.self.inside.spans.entries c.args.name.now c.self.invariant.each (omega arith))

pub value_at-requires : goal.value_at-requires
value_at-requires c =
    let there = entry_there (string_bytes c.self.inside.values) c.self.inside.spans.entries c.in-Some._place (c.in-Some._name.now, c.in-Some.span.now) c.self.invariant.each c.in-Some.ensures.entry in
    rw c.as_str-values.ensures.value there.cut

pub returns-in-Some : goal.returns-in-Some
returns-in-Some c =
    let values : List ℕ = string_bytes c.self.inside.values in
    let cut : c.value_at.result.now ≡ cut_out values c.in-Some.span.now = c.value_at.ensures ∙ ap (λ (v : List ℕ). cut_out v c.in-Some.span.now) c.as_str-values.ensures.value in
    ap (λ (t : List ℕ). Some t) cut
    ∙ found values c.self.inside.spans.entries c.in_place-short.result c.args.name.now (Some c.in-Some.span.now) c.in_place-short.ensures c.in-Some.ensures.value
    ∙ ap (λ (ps : List Pair). text_of ps c.args.name.now) c.self.view_is

pub returns-in-None : goal.returns-in-None
returns-in-None c =
    found (string_bytes c.self.inside.values) c.self.inside.spans.entries c.in_place-short.result c.args.name.now None c.in_place-short.ensures c.in-None.ensures.value
    ∙ ap (λ (ps : List Pair). text_of ps c.args.name.now) c.self.view_is
