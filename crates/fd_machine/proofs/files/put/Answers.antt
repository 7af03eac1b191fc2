use Rattle.std.proofs.Common.{◌≡◌, ℕ, suc, ◌+◌, ◌++◌, List, take, drop, sym, ◌∙◌, ap, arith}
use Rattle.fd_machine.specs.declared.machine.NamedFile.{NamedFile}
use Rattle.fd_machine.specs.Machine.{put_file}
use Rattle.fd_machine.proofs.FilePlaces.{put_found, put_passed}
use Rattle.fd_machine.proofs.files.put.Goals as goal

pub returns-then-is_same-clause-ok : goal.returns-then-is_same-clause-ok
returns-then-is_same-clause-ok c =
    c.set.ensures ∙ sym (put_found c.loop-i.files c.loop-i.i c.at.result.now c.args.name c.args.file c.at.ensures (sym c.is_same.ensures ∙ c.if-is_same.true))
    ∙ c.loop-i.invariant.passed ∙ ap (λ (l : List NamedFile). put_file l c.args.name c.args.file) c.loop-i.invariant.same

pub loop-i-preserved : goal.loop-i-preserved
loop-i-preserved c =
    let one : c.loop-i.i + 1 ≡ suc c.loop-i.i = omega arith in
    record {
      same = c.loop-i.invariant.same;
      end = c.loop-i.invariant.end;
      passed = ap (λ (k : ℕ). take k c.loop-i.files ++ put_file (drop k c.loop-i.files) c.args.name c.args.file) one
          ∙ put_passed c.loop-i.files c.loop-i.i c.at.result.now c.args.name c.args.file c.at.ensures (sym c.is_same.ensures ∙ c.if-is_same.false)
          ∙ c.loop-i.invariant.passed;
    }
