use Rattle.std.proofs.Common.{sym, ◌∙◌, arith}
use Rattle.fd_machine.proofs.OpenSteps.{drop_step, keep_step}
use Rattle.fd_machine.proofs.files.keep_listed.Goals as goal

pub each-preserved-then-is_listed : goal.each-preserved-then-is_listed
each-preserved-then-is_listed c = keep_step c.args.entries.now c.each.files c.each.i c.at.result.now c.at.ensures (sym c.is_listed.ensures ∙ c.if-is_listed.true) ∙ c.each.invariant

pub each-preserved : goal.each-preserved
each-preserved c =
    drop_step c.args.entries.now c.each.files c.remove.new.self c.each.i c.at.result.now c.at.ensures (sym c.is_listed.ensures ∙ c.if-is_listed.false) (omega (arith, c.each-test.true, c.len.ensures)) c.remove.ensures
    ∙ c.each.invariant
