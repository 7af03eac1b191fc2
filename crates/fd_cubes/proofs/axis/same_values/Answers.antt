use Rattle.std.proofs.Common.{◌≡◌, ◌≢◌, true≢false, sym, ◌∙◌, arith, rules}
use Rattle.fd_cubes.proofs.Seen.{texts_at, texts_more}
use Rattle.fd_cubes.proofs.axis.same_values.Goals as goal

pub loop-i-preserved : goal.loop-i-preserved
loop-i-preserved c =
    let same : c.as_str.result.now ≡ c.as_str-in-loop-i.result.now = search rules in
    texts_more c.loop-i.i c.args.one.now c.args.other.now c.index-one-i.result c.index-other-i.result (omega (arith, c.loop-i-test.true)) (omega (arith, c.loop-i-test.true)) c.index-one-i.is c.index-other-i.is
    (sym c.as_str.ensures.value ∙ same ∙ c.as_str-in-loop-i.ensures.value) c.loop-i.invariant

pub returns-then-ne : goal.returns-then-ne
returns-then-ne c =
    let apart : c.as_str.result.now ≢ c.as_str-in-loop-i.result.now = search rules in (
      λ t. absurd (true≢false (sym t)),
      λ e. absurd (apart (c.as_str.ensures.value
          ∙ texts_at c.loop-i.i c.args.one.now c.args.other.now c.index-one-i.result c.index-other-i.result e (omega (arith, c.loop-i-test.true)) (omega (arith, c.loop-i-test.true)) c.index-one-i.is c.index-other-i.is
          ∙ sym c.as_str-in-loop-i.ensures.value)),
    )
