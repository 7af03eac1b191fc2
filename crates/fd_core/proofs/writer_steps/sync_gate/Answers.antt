use Rattle.std.proofs.Common.{◌==◌, sym, ◌∙◌, ap, subst}
use Rattle.fd_machine.specs.World.{World}
use Rattle.fd_machine.specs.Took.{IsAt, IsReached}
use Rattle.fd_machine.specs.Machine.{after, code, fresh, writer_of}
use Rattle.fd_machine.specs.declared.machine.Phase.{Phase}
use Rattle.fd_machine.specs.declared.machine.Phase.TheVariants.{GateLoose}
use Rattle.fd_machine.specs.declared.machine.Step.TheVariants.{SyncGate}
use Rattle.fd_machine.proofs.Reached.{sync_gate_done, reached_step}
use Rattle.fd_core.proofs.writer_steps.sync_gate.Goals as goal

pub returns-clause-ok : goal.returns-clause-ok
returns-clause-ok c =
    let s : World = record { table = c.state.inside.table; files = c.state.inside.files; history = c.state.inside.history; writers = c.state.inside.writers; owner = c.state.inside.owner; doubt = c.state.inside.doubt; readers = c.state.inside.readers; down = c.state.inside.down } in
    let at : IsAt s c.args.w c.in-Some.i GateLoose = subst (λ (t : World). IsAt t c.args.w c.in-Some.i GateLoose) (sym c.state.view_is) c.in-Some.ensures.some in
    sync_gate_done s c.args.w c.in-Some.i (writer_of s c.args.w) c.sync_file.new.file c.set_phase.new.writers at.up at.place (at.place.writer (fresh s.table c.args.w)) (ap (λ (q : Phase). code q == code GateLoose) at.phase) c.in_ok-sync_file.ensures.ok c.set_phase.ensures
    ∙ ap (λ (t : World). after t (SyncGate c.args.w)) c.state.view_is

pub invariant_of-state-2 : goal.invariant_of-state-2
invariant_of-state-2 c = subst IsReached (sym (returns-clause-ok c)) (subst (λ (t : World). IsReached (after t (SyncGate c.args.w))) c.state.view_is (reached_step _ (SyncGate c.args.w) c.state.invariant))
