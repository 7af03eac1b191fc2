use Rattle.std.proofs.Common.{◌==◌, sym, ◌∙◌, ap, subst, length}
use Rattle.fd_machine.specs.World.{World}
use Rattle.fd_machine.specs.Took.{IsAt, IsReached}
use Rattle.fd_machine.specs.Machine.{after, code}
use Rattle.fd_machine.specs.declared.machine.Phase.{Phase}
use Rattle.fd_machine.specs.declared.machine.Phase.TheVariants.{Holding}
use Rattle.fd_machine.specs.declared.machine.Step.TheVariants.{Body}
use Rattle.fd_machine.proofs.Reached.{phase_at, reached_step}
use Rattle.fd_core.proofs.FillSteps.{body_done, body_written, count_few, place_bounded}
use Rattle.fd_entries.specs.Table.{gate_at}
use Rattle.fd_core.proofs.writer_steps.body.Goals as goal

pub entry_of-requires : goal.entry_of-requires
entry_of-requires c =
    let s : World = record { table = c.state.inside.table; files = c.state.inside.files; history = c.state.inside.history; writers = c.state.inside.writers; owner = c.state.inside.owner; doubt = c.state.inside.doubt; readers = c.state.inside.readers; down = c.state.inside.down } in
    let at : IsAt s c.args.w c.in-Some.i Holding = subst (λ (t : World). IsAt t c.args.w c.in-Some.i Holding) (sym c.state.view_is) c.in-Some.ensures.some in
    place_bounded s c.args.w c.in-Some.i c.at-writer.result.now c.state.invariant at.up at.place c.at-writer.ensures

pub gate_at-gate-requires : goal.gate_at-gate-requires
gate_at-gate-requires c = count_few (record { table = c.state.inside.table; files = c.state.inside.files; history = c.state.inside.history; writers = c.state.inside.writers; owner = c.state.inside.owner; doubt = c.state.inside.doubt; readers = c.state.inside.readers; down = c.state.inside.down }) c.len.result c.state.invariant c.len.ensures

pub returns-clause-ok : goal.returns-clause-ok
returns-clause-ok c =
    let s : World = record { table = c.state.inside.table; files = c.state.inside.files; history = c.state.inside.history; writers = c.state.inside.writers; owner = c.state.inside.owner; doubt = c.state.inside.doubt; readers = c.state.inside.readers; down = c.state.inside.down } in
    let at : IsAt s c.args.w c.in-Some.i Holding = subst (λ (t : World). IsAt t c.args.w c.in-Some.i Holding) (sym c.state.view_is) c.in-Some.ensures.some in
    body_done s c.args.w c.in-Some.i c.at-writer.result.now c.write_file.new.file c.set_phase.new.writers at.up (sym c.is_some.ensures ∙ c.if-is_some.false) at.place c.at-writer.ensures (ap (λ (q : Phase). code q == code Holding) (phase_at s c.args.w c.in-Some.i Holding c.at-writer.result.now at c.at-writer.ensures))
    (body_written s.table (length s.history) c.at-writer.result.now c.gate_at-gate.result c.entry_of.result c.body-body.result c.write_file.new.file (c.gate_at-gate.ensures.place ∙ ap gate_at c.len.ensures) c.entry_of.ensures c.body-body.ensures c.in_ok-write_file.ensures.ok) c.set_phase.ensures
    ∙ ap (λ (t : World). after t (Body c.args.w)) c.state.view_is

pub invariant_of-state-2 : goal.invariant_of-state-2
invariant_of-state-2 c = subst IsReached (sym (returns-clause-ok c)) (subst (λ (t : World). IsReached (after t (Body c.args.w))) c.state.view_is (reached_step _ (Body c.args.w) c.state.invariant))
