use Rattle.std.proofs.Common.{◌≡◌, ℕ, suc, ◌+◌, ◌++◌, take, drop, Some, sym, ◌∙◌, ap, arith}
use Rattle.fd_machine.specs.Machine.{writer_in, put_writer}
use Rattle.fd_machine.proofs.Places.{writer_found, writer_passed, put_found, put_passed}
use Rattle.fd_machine.proofs.writers.place.Goals as goal

pub returns-then-at-w-clause-some : goal.returns-then-at-w-clause-some
returns-then-at-w-clause-some c = record {
  inside = omega (arith, c.loop-i-test.true, c.loop-i.invariant.end);
  writer = λ o. c.at.ensures ∙ ap Some (sym (writer_found c.args.writers.now c.loop-i.i c.at.result.now o c.args.w c.at.ensures c.if-at-w.true) ∙ c.loop-i.invariant.passed o);
  put = λ y is. sym (c.loop-i.invariant.put y is) ∙ put_found c.args.writers.now c.loop-i.i c.at.result.now y c.at.ensures (c.if-at-w.true ∙ sym is);
}

pub loop-i-preserved : goal.loop-i-preserved
loop-i-preserved c =
    let one : c.loop-i.i + 1 ≡ suc c.loop-i.i = omega arith in
    let xs = c.args.writers.now in
    record {
      same = c.loop-i.invariant.same;
      end = c.loop-i.invariant.end;
      passed = λ o. ap (λ (k : ℕ). writer_in (drop k xs) c.args.w o) one ∙ writer_passed xs c.loop-i.i c.at.result.now o c.args.w c.at.ensures c.if-at-w.false ∙ c.loop-i.invariant.passed o;
      put = λ y is. ap (λ (k : ℕ). take k xs ++ put_writer (drop k xs) y) one ∙ put_passed xs c.loop-i.i c.at.result.now y c.at.ensures (λ e. c.if-at-w.false (e ∙ is)) ∙ c.loop-i.invariant.put y is;
    }
