use Rattle.std.proofs.Common.{sym, ◌∙◌, ap, subst}
use Rattle.fd_machine.specs.World.{World}
use Rattle.fd_machine.specs.Took.{IsReached}
use Rattle.fd_machine.specs.Machine.{after}
use Rattle.fd_machine.specs.declared.machine.Step.TheVariants.{Crash}
use Rattle.fd_machine.proofs.Reached.{reached_step}
use Rattle.fd_core.proofs.CrashSteps.{crash_done}
use Rattle.fd_machine.specs.Machine.{may_leave}
use Rattle.fd_core.proofs.crash_steps.crash.Goals as goal

pub returns-clause-ok : goal.returns-clause-ok
returns-clause-ok c =
    let s : World = record { table = c.state.inside.table; files = c.state.inside.files; history = c.state.inside.history; writers = c.state.inside.writers; owner = c.state.inside.owner; doubt = c.state.inside.doubt; readers = c.state.inside.readers; down = c.state.inside.down } in
    crash_done s c.args.left c.at.result.now c.in_ok-table.table c.in_ok-files.files c.new.result c.if-state.false (ap (λ (t : World). may_leave t c.args.left) c.state.view_is ∙ sym c.may_leave.ensures ∙ c.if-not-may_leave.false) c.at.ensures c.in_ok-table.ensures c.in_ok-files.ensures c.new.ensures
    ∙ ap (λ (t : World). after t (Crash c.args.left)) c.state.view_is

pub invariant_of-state : goal.invariant_of-state
invariant_of-state c = subst IsReached (sym (returns-clause-ok c)) (subst (λ (t : World). IsReached (after t (Crash c.args.left))) c.state.view_is (reached_step _ (Crash c.args.left) c.state.invariant))
