use Rattle.std.proofs.Common.{◌==◌, ℕ, sym, ◌∙◌, ap, subst, [], ◌∷◌}
use Rattle.fd_machine.specs.World.{World}
use Rattle.fd_machine.specs.Took.{IsAt, IsReached}
use Rattle.fd_machine.specs.Machine.{after, code, fresh, writer_of}
use Rattle.fd_machine.specs.declared.machine.Phase.{Phase}
use Rattle.fd_machine.specs.declared.machine.Phase.TheVariants.{BodyFirm}
use Rattle.fd_machine.specs.declared.machine.Step.TheVariants.{Gate}
use Rattle.fd_machine.proofs.Reached.{reached_step}
use Rattle.fd_machine.proofs.Reached.{gate_done}
use Rattle.fd_core.proofs.FillSteps.{count_few}
use Rattle.fd_disk.specs.Images.{written}
use Rattle.fd_core.proofs.writer_steps.gate.Goals as goal

pub gate_at-gate-requires : goal.gate_at-gate-requires
gate_at-gate-requires c = count_few (record { table = c.state.inside.table; files = c.state.inside.files; history = c.state.inside.history; writers = c.state.inside.writers; owner = c.state.inside.owner; doubt = c.state.inside.doubt; readers = c.state.inside.readers; down = c.state.inside.down }) c.len.result c.state.invariant c.len.ensures

pub returns-clause-ok : goal.returns-clause-ok
returns-clause-ok c =
    let s : World = record { table = c.state.inside.table; files = c.state.inside.files; history = c.state.inside.history; writers = c.state.inside.writers; owner = c.state.inside.owner; doubt = c.state.inside.doubt; readers = c.state.inside.readers; down = c.state.inside.down } in
    let at : IsAt s c.args.w c.in-Some.i BodyFirm = subst (λ (t : World). IsAt t c.args.w c.in-Some.i BodyFirm) (sym c.state.view_is) c.in-Some.ensures.some in
    gate_done s c.args.w c.in-Some.i c.len.result (writer_of s c.args.w) c.write_file.new.file c.set_phase.new.writers at.up at.place (at.place.writer (fresh s.table c.args.w)) (ap (λ (q : Phase). code q == code BodyFirm) at.phase) c.len.ensures
    (c.in_ok-write_file.ensures.ok ∙ ap (λ (n : ℕ). written s.table n (79 ∷ [])) c.gate_at-gate.ensures.place) c.set_phase.ensures
    ∙ ap (λ (t : World). after t (Gate c.args.w)) c.state.view_is

pub invariant_of-state-2 : goal.invariant_of-state-2
invariant_of-state-2 c = subst IsReached (sym (returns-clause-ok c)) (subst (λ (t : World). IsReached (after t (Gate c.args.w))) c.state.view_is (reached_step _ (Gate c.args.w) c.state.invariant))
