use Rattle.std.proofs.Common.{◌≡◌, ◌≢◌, true≢false, ap, sym, ◌∙◌, arith, rules, string_bytes}
use Rattle.fd_spelling.specs.Texts.{texts}
use Rattle.fd_cubes.specs.declared.axis.Axis as code_axis
use Rattle.fd_cubes.specs.Axes.{seen_axis}
use Rattle.fd_cubes.proofs.Seen.{same_length, same_more, same_name, same_there, same_item, blank_at, blank_here, blank_there}
use Rattle.fd_cubes.proofs.axis.same_but.Goals.{else-i-place-via-then-i-place+else-not-same_values, else-i-place-via-else-i-place}
use Rattle.fd_cubes.proofs.axis.same_but.Goals as goal

pub loop-i-preserved : goal.loop-i-preserved
loop-i-preserved c =
    let same : c.as_str.result.now ≡ c.as_str-in-loop-i.result.now = search rules in
    let one = ap (λ (a : code_axis.Axis). string_bytes a.name) c.index-one-i.is in
    let other = ap (λ (a : code_axis.Axis). string_bytes a.name) c.index-other-i.is in
    let named : string_bytes c.index-one-i.result.name ≡ string_bytes c.index-other-i.result.name = one ∙ sym c.as_str.ensures.value ∙ same ∙ c.as_str-in-loop-i.ensures.value ∙ sym other in
    let here : blank_at c.args.place c.loop-i.i (seen_axis c.index-one-i.result) ≡ blank_at c.args.place c.loop-i.i (seen_axis c.index-other-i.result) =
    elim c.else-i-place.branch [
      | else-i-place-via-then-i-place+else-not-same_values w ↦ blank_there c.args.place c.loop-i.i (seen_axis c.index-one-i.result) (seen_axis c.index-other-i.result) named
          (ap (λ (a : code_axis.Axis). texts a.values.items) (sym (same_item c.args.one.now c.loop-i.i c.index-one-i.result w.index-one-i-then-i-place.result (omega (arith, c.loop-i-test.true)) c.index-one-i.is))
          ∙ sym (ap texts w.deref.ensures.value) ∙ w.same_values.ensures.0 (search rules) ∙ ap texts w.deref-then-i-place.ensures.value
          ∙ ap (λ (a : code_axis.Axis). texts a.values.items) (same_item c.args.other.now c.loop-i.i c.index-other-i.result w.index-other-i-then-i-place.result (omega (arith, c.loop-i-test.true)) c.index-other-i.is))
      | else-i-place-via-else-i-place w ↦ blank_here c.args.place c.loop-i.i (seen_axis c.index-one-i.result) (seen_axis c.index-other-i.result) (let e : c.loop-i.i ≡ c.args.place = search rules in e) named
    ] in
    same_more c.args.place c.loop-i.i c.args.one.now c.args.other.now c.index-one-i.result c.index-other-i.result (omega (arith, c.loop-i-test.true)) (omega (arith, c.loop-i-test.true)) c.index-one-i.is c.index-other-i.is c.loop-i.invariant here

pub returns-then-one-other : goal.returns-then-one-other
returns-then-one-other c = (λ t. absurd (true≢false (sym t)), λ same. absurd (c.if-one-other.true (same_length c.args.place c.args.one.now c.args.other.now same)))

pub returns-then-ne : goal.returns-then-ne
returns-then-ne c =
    let apart : c.as_str.result.now ≢ c.as_str-in-loop-i.result.now = search rules in
    let one = ap (λ (a : code_axis.Axis). string_bytes a.name) c.index-one-i.is in
    let other = ap (λ (a : code_axis.Axis). string_bytes a.name) c.index-other-i.is in (
      λ t. absurd (true≢false (sym t)),
      λ same. absurd (apart (c.as_str.ensures.value ∙ sym one
          ∙ same_name c.args.place c.loop-i.i c.args.one.now c.args.other.now c.index-one-i.result c.index-other-i.result same (omega (arith, c.loop-i-test.true)) (omega (arith, c.loop-i-test.true)) c.index-one-i.is c.index-other-i.is
          ∙ other ∙ sym c.as_str-in-loop-i.ensures.value)),
    )

pub returns-then-not-same_values : goal.returns-then-not-same_values
returns-then-not-same_values c =
    let one = c.index-one-i-then-i-place in
    let other = c.index-other-i-then-i-place in (
      λ t. absurd (true≢false (sym t)),
      λ same. absurd (true≢false (sym (c.same_values.ensures.1 (ap texts c.deref.ensures.value ∙ ap (λ (a : code_axis.Axis). texts a.values.items) (sym one.is)
          ∙ same_there c.args.place c.loop-i.i c.args.one.now c.args.other.now one.result other.result same c.if-i-place.true (omega (arith, c.loop-i-test.true)) (omega (arith, c.loop-i-test.true)) one.is other.is
          ∙ ap (λ (a : code_axis.Axis). texts a.values.items) other.is ∙ sym (ap texts c.deref-then-i-place.ensures.value))) ∙ c.if-not-same_values.true)),
    )
