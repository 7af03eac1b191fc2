use Rattle.std.proofs.Common.{◌≡◌, ℕ, suc, ◌+◌, ◌++◌, List, take, drop, sym, ◌∙◌, ap, arith}
use Rattle.fd_machine.specs.declared.machine.Seen.{Seen}
use Rattle.fd_machine.specs.Machine.{put_seen}
use Rattle.fd_machine.proofs.SeenLemmas.{seen_found, seen_passed}
use Rattle.fd_machine.proofs.state.see.Goals as goal

pub returns-then-at-r-clause-ok : goal.returns-then-at-r-clause-ok
returns-then-at-r-clause-ok c =
    c.set.ensures ∙ sym (seen_found c.loop-i.readers c.loop-i.i c.at.result.now c.args.r c.args.n c.at.ensures c.if-at-r.true)
    ∙ c.loop-i.invariant.passed ∙ ap (λ (l : List Seen). put_seen l c.args.r c.args.n) c.loop-i.invariant.same

pub loop-i-preserved : goal.loop-i-preserved
loop-i-preserved c =
    let one : c.loop-i.i + 1 ≡ suc c.loop-i.i = omega arith in
    record {
      same = c.loop-i.invariant.same;
      end = c.loop-i.invariant.end;
      passed = ap (λ (k : ℕ). take k c.loop-i.readers ++ put_seen (drop k c.loop-i.readers) c.args.r c.args.n) one
          ∙ seen_passed c.loop-i.readers c.loop-i.i c.at.result.now c.args.r c.args.n c.at.ensures c.if-at-r.false
          ∙ c.loop-i.invariant.passed;
    }
