use Rattle.std.proofs.Common.{◌≡◌, ℕ, suc, ◌+◌, drop, sym, ◌∙◌, ap, arith}
use Rattle.fd_machine.specs.Machine.{file_of}
use Rattle.fd_machine.proofs.FilePlaces.{file_found, file_passed}
use Rattle.fd_machine.proofs.files.find.Goals as goal

pub returns-then-is_same-clause-some : goal.returns-then-is_same-clause-some
returns-then-is_same-clause-some c =
    let is = sym c.is_same.ensures ∙ c.if-is_same.true in
    let e1 = file_found c.args.files.now c.loop-i.i c.at.result.now c.args.name c.at.ensures is in
    let same : c.at-then-is_same.result.now ≡ c.at.result.now = cc (c.at.ensures, c.at-then-is_same.ensures) in
    ap (λ x. x.file) same ∙ sym e1 ∙ c.loop-i.invariant.passed

pub loop-i-preserved : goal.loop-i-preserved
loop-i-preserved c =
    let one : c.loop-i.i + 1 ≡ suc c.loop-i.i = omega arith in
    record {
      end = c.loop-i.invariant.end;
      passed = ap (λ (k : ℕ). file_of (drop k c.args.files.now) c.args.name) one
          ∙ file_passed c.args.files.now c.loop-i.i c.at.result.now c.args.name c.at.ensures (sym c.is_same.ensures ∙ c.if-is_same.false)
          ∙ c.loop-i.invariant.passed;
    }
