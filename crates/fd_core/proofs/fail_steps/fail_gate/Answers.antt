use Rattle.std.proofs.Common.{ℕ, sym, ◌∙◌, ap, subst, [], ◌∷◌}
use Rattle.fd_machine.specs.World.{World}
use Rattle.fd_machine.specs.Took.{IsReached}
use Rattle.fd_machine.specs.Machine.{after}
use Rattle.fd_machine.specs.declared.machine.Step.TheVariants.{Fail}
use Rattle.fd_machine.proofs.Reached.{reached_step}
use Rattle.fd_core.proofs.FailSteps.{fail_gate_done}
use Rattle.fd_machine.specs.Took.{IsAt}
use Rattle.fd_machine.specs.declared.machine.Phase.TheVariants.{BodyFirm}
use Rattle.fd_core.proofs.FillSteps.{count_few, place_bounded}
use Rattle.fd_disk.specs.Images.{written}
use Rattle.fd_core.proofs.fail_steps.fail_gate.Goals as goal

pub entry_of-entry-requires : goal.entry_of-entry-requires
entry_of-entry-requires c =
    let at = subst (λ (t : World). IsAt t c.args.w c.args.i BodyFirm) (sym c.state.view_is) c.requires in
    place_bounded (record { table = c.state.inside.table; files = c.state.inside.files; history = c.state.inside.history; writers = c.state.inside.writers; owner = c.state.inside.owner; doubt = c.state.inside.doubt; readers = c.state.inside.readers; down = c.state.inside.down }) c.args.w c.args.i c.at.result.now c.state.invariant at.up at.place c.at.ensures

pub gate_at-gate-requires : goal.gate_at-gate-requires
gate_at-gate-requires c = count_few (record { table = c.state.inside.table; files = c.state.inside.files; history = c.state.inside.history; writers = c.state.inside.writers; owner = c.state.inside.owner; doubt = c.state.inside.doubt; readers = c.state.inside.readers; down = c.state.inside.down }) c.len.result c.state.invariant c.len.ensures

pub returns-clause-ok : goal.returns-clause-ok
returns-clause-ok c =
    let s : World = record { table = c.state.inside.table; files = c.state.inside.files; history = c.state.inside.history; writers = c.state.inside.writers; owner = c.state.inside.owner; doubt = c.state.inside.doubt; readers = c.state.inside.readers; down = c.state.inside.down } in
    let at = subst (λ (t : World). IsAt t c.args.w c.args.i BodyFirm) (sym c.state.view_is) c.requires in
    fail_gate_done s c.args.w c.args.i c.len.result c.at.result.now c.entry_of-entry.result c.write_file.new.file c.set_phase.new.writers at c.at.ensures c.entry_of-entry.ensures c.len.ensures
    (c.in_ok-write_file.ensures.ok ∙ ap (λ (n : ℕ). written s.table n (79 ∷ [])) c.gate_at-gate.ensures.place) c.set_phase.ensures
    ∙ ap (λ (t : World). after t (Fail c.args.w)) c.state.view_is

pub invariant_of-state-2 : goal.invariant_of-state-2
invariant_of-state-2 c = subst IsReached (sym (returns-clause-ok c)) (subst (λ (t : World). IsReached (after t (Fail c.args.w))) c.state.view_is (reached_step _ (Fail c.args.w) c.state.invariant))
