use Rattle.std.proofs.Common.{rules, ◌≡◌, ◌∙◌, ◌-◌, true, false, arith, sym}
use Rattle.fd_index.specs.Records.{keys}
use Rattle.fd_purge.proofs.KeyLemmas.{key_at, more_masked, not_masked}
use Rattle.fd_purge.proofs.keys.are_known.Goals as goal

pub returns-then-not-contains : goal.returns-then-not-contains
returns-then-not-contains c = λ later known.
    let out : c.contains.result ≡ false = search rules in
    sym (not_masked (keys c.args.index.now) (c.loop-left.left - 1) _ later (key_at c.args.index.now (c.loop-left.left - 1) _ c.record.ensures) (sym (known _) ∙ sym c.contains.ensures ∙ out))

pub loop-left-preserved : goal.loop-left-preserved
loop-left-preserved c = record {
  few = omega (arith, c.loop-left.invariant.few);
  masked = λ later known.
      let here : c.contains.result ≡ true = search rules in
      more_masked c.args.index.now (c.loop-left.left - 1) c.loop-left.left _ later (omega (arith, c.loop-left-test.true)) c.record.ensures (sym (known _) ∙ sym c.contains.ensures ∙ here) (c.loop-left.invariant.masked later known);
}
