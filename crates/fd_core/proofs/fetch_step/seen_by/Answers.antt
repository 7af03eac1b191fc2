use Rattle.std.proofs.Common.{◌≡◌, ◌==◌, ◌+◌, if◌then◌else◌, Bool, true, false, Some, drop, sym, ◌∙◌, ap, arith}
use Rattle.std.proofs.lemmas.Bool.Decides.{nat_tests}
use Rattle.fd_machine.specs.declared.machine.Seen.{Seen}
use Rattle.fd_machine.specs.Machine.{seen_by}
use Rattle.fd_machine.proofs.OpenSteps.{seen_step}
use Rattle.fd_core.proofs.fetch_step.seen_by.Goals as goal

pub returns-then-at-r : goal.returns-then-at-r
returns-then-at-r c =
    let x = c.at.result.now in
    let is = c.if-at-r.true in
    let test : (x.reader == c.args.r) ≡ true = grind (arith, nat_tests, is) in
    let same : c.at-then-at-r.result.now ≡ x = cc (c.at.ensures, c.at-then-at-r.ensures) in
    ap (λ (y : Seen). Some y.length) same ∙ sym (ap (λ (b : Bool). if b then Some x.length else seen_by (drop (c.loop-i.i + 1) c.args.readers.now) c.args.r) test)
    ∙ sym (seen_step c.args.readers.now c.loop-i.i x c.args.r c.at.ensures) ∙ c.loop-i.invariant.so_far

pub loop-i-preserved : goal.loop-i-preserved
loop-i-preserved c =
    let x = c.at.result.now in
    let is = c.if-at-r.false in
    let test : (x.reader == c.args.r) ≡ false = grind (arith, nat_tests, is) in
    record {
      end = c.loop-i.invariant.end;
      so_far = sym (ap (λ (b : Bool). if b then Some x.length else seen_by (drop (c.loop-i.i + 1) c.args.readers.now) c.args.r) test)
          ∙ sym (seen_step c.args.readers.now c.loop-i.i x c.args.r c.at.ensures) ∙ c.loop-i.invariant.so_far;
    }
