use Rattle.std.proofs.Common.{◌≡◌, ◌-◌, ◌∷◌, arith, subst, drop}
use Rattle.fd_index.specs.Records.{keys}
use Rattle.fd_purge.specs.Reads.{Knows}
use Rattle.fd_purge.proofs.KeyLemmas.{more_known, start_known}
use Rattle.fd_purge.proofs.keys.add_keys.Goals as goal

pub loop-left-init : goal.loop-left-init
loop-left-init c = record {
  few = omega (arith, c.len-left.ensures.count);
  known = λ later known. start_known c.args.index.now _ c.args.known.now later (omega (arith, c.len-left.ensures.count)) known;
}

pub loop-left-preserved : goal.loop-left-preserved
loop-left-preserved c = record {
  few = omega (arith, c.loop-left.invariant.few);
  known = λ later known.
      more_known c.args.index.now (c.loop-left.left - 1) c.loop-left.left _ c.in_ok-text.text c.loop-left.known c.insert.new.self later (omega (arith, c.loop-left-test.true)) c.record.ensures
      c.in_ok-text.ensures.items c.in_ok-insert.ensures.keys (c.loop-left.invariant.known later known);
}

pub returns : goal.returns
returns c = λ later known.
    let none : c.loop-left.left ≡ 0 = omega (arith, c.loop-left-test.false) in
    subst (λ n. Knows c.loop-left.known (drop n (keys c.args.index.now) ∷ later)) none (c.loop-left.invariant.known later known)
