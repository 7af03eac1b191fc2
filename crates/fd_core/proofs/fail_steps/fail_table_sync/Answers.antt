use Rattle.std.proofs.Common.{sym, ◌∙◌, ap, subst, ◌⊎◌}
use Rattle.fd_machine.specs.World.{World}
use Rattle.fd_machine.specs.Took.{IsReached}
use Rattle.fd_machine.specs.Machine.{after}
use Rattle.fd_machine.specs.declared.machine.Step.TheVariants.{Fail}
use Rattle.fd_machine.proofs.Reached.{reached_step}
use Rattle.fd_core.proofs.FailSteps.{fail_table_sync_done}
use Rattle.fd_machine.specs.Took.{IsAt}
use Rattle.fd_machine.specs.declared.machine.Phase.TheVariants.{Closing, BodyLoose}
use Rattle.fd_core.proofs.fail_steps.fail_table_sync.Goals as goal

pub returns : goal.returns
returns c =
    let s : World = record { table = c.state.inside.table; files = c.state.inside.files; history = c.state.inside.history; writers = c.state.inside.writers; owner = c.state.inside.owner; doubt = c.state.inside.doubt; readers = c.state.inside.readers; down = c.state.inside.down } in
    let at = subst (λ (t : World). (IsAt t c.args.w c.args.i Closing) ⊎ (IsAt t c.args.w c.args.i BodyLoose)) (sym c.state.view_is) c.requires in
    fail_table_sync_done s c.args.w c.args.i c.set_phase.new.writers at c.set_phase.ensures
    ∙ ap (λ (t : World). after t (Fail c.args.w)) c.state.view_is

pub invariant_of-state : goal.invariant_of-state
invariant_of-state c = subst IsReached (sym (returns c)) (subst (λ (t : World). IsReached (after t (Fail c.args.w))) c.state.view_is (reached_step _ (Fail c.args.w) c.state.invariant))
