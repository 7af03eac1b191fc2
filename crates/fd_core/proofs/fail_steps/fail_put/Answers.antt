use Rattle.std.proofs.Common.{◌≡◌, sym, ◌∙◌, ap, subst}
use Rattle.fd_machine.specs.World.{World}
use Rattle.fd_machine.specs.Took.{IsReached}
use Rattle.fd_machine.specs.Machine.{after}
use Rattle.fd_machine.specs.declared.machine.Step.TheVariants.{Fail}
use Rattle.fd_machine.proofs.Reached.{reached_step}
use Rattle.fd_core.proofs.FailSteps.{fail_put_done}
use Rattle.fd_machine.specs.Machine.{fields_name, writer_of}
use Rattle.fd_entries.specs.Batches.{total}
use Rattle.fd_machine.specs.declared.machine.Phase.TheVariants.{Filling}
use Rattle.fd_core.proofs.fail_steps.fail_put.Goals as goal

pub returns-clause-ok : goal.returns-clause-ok
returns-clause-ok c =
    let s : World = record { table = c.state.inside.table; files = c.state.inside.files; history = c.state.inside.history; writers = c.state.inside.writers; owner = c.state.inside.owner; doubt = c.state.inside.doubt; readers = c.state.inside.readers; down = c.state.inside.down } in
    let up = ap (λ (t : World). t.down) c.state.view_is ∙ c.requires.up in
    let phase = subst (λ (t : World). (writer_of t c.args.w).phase ≡ Filling) (sym c.state.view_is) c.requires.phase in
    fail_put_done s c.args.w c.next_place-at.result.1 c.next_place-at.result.0 c.loosen.new.files up phase (c.next_place-at.ensures.name ∙ ap (λ (t : World). fields_name (writer_of t c.args.w)) (sym c.state.view_is)) (c.next_place-at.ensures.at ∙ ap (λ (t : World). total (writer_of t c.args.w).pairs) (sym c.state.view_is)) c.in_ok-loosen.ensures.ok
    ∙ ap (λ (t : World). after t (Fail c.args.w)) c.state.view_is

pub invariant_of-state-2 : goal.invariant_of-state-2
invariant_of-state-2 c = subst IsReached (sym (returns-clause-ok c)) (subst (λ (t : World). IsReached (after t (Fail c.args.w))) c.state.view_is (reached_step _ (Fail c.args.w) c.state.invariant))
