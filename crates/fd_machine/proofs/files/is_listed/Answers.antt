use Rattle.std.proofs.Common.{◌+◌, ◌||◌, Bool, drop, sym, ◌∙◌, ap}
use Rattle.fd_machine.specs.Machine.{is_listed}
use Rattle.fd_machine.proofs.OpenSteps.{listed_step}
use Rattle.fd_machine.proofs.files.is_listed.Goals as goal

pub returns-then-has_file : goal.returns-then-has_file
returns-then-has_file c =
    let test = sym c.has_file.ensures ∙ c.if-has_file.true in
    sym (ap (λ (b : Bool). b || is_listed (drop (c.loop-i.i + 1) c.args.entries.now) c.args.name) test)
    ∙ sym (listed_step c.args.entries.now c.loop-i.i c.at.result.now c.args.name c.at.ensures) ∙ c.loop-i.invariant.so_far

pub loop-i-preserved : goal.loop-i-preserved
loop-i-preserved c =
    let test = sym c.has_file.ensures ∙ c.if-has_file.false in
    record {
      end = c.loop-i.invariant.end;
      so_far = sym (ap (λ (b : Bool). b || is_listed (drop (c.loop-i.i + 1) c.args.entries.now) c.args.name) test)
          ∙ sym (listed_step c.args.entries.now c.loop-i.i c.at.result.now c.args.name c.at.ensures) ∙ c.loop-i.invariant.so_far;
    }
