use Rattle.std.proofs.Common.{◌==◌, sym, ◌∙◌, ap, subst, arith}
use Rattle.fd_machine.specs.World.{World}
use Rattle.fd_machine.specs.Took.{IsAt, IsReached}
use Rattle.fd_machine.specs.Machine.{after, code, fresh, writer_of}
use Rattle.fd_machine.specs.declared.machine.Phase.{Phase}
use Rattle.fd_machine.specs.declared.machine.Phase.TheVariants.{Sealed}
use Rattle.fd_machine.specs.declared.machine.Step.TheVariants.{Take}
use Rattle.fd_machine.proofs.Reached.{take_done, reached_step}
use Rattle.fd_core.proofs.writer_steps.take.Goals as goal

pub returns-clause-state : goal.returns-clause-state
returns-clause-state c =
    let s : World = record { table = c.state.inside.table; files = c.state.inside.files; history = c.state.inside.history; writers = c.state.inside.writers; owner = c.state.inside.owner; doubt = c.state.inside.doubt; readers = c.state.inside.readers; down = c.state.inside.down } in
    let at : IsAt s c.args.w c.in-Some.i Sealed = subst (λ (t : World). IsAt t c.args.w c.in-Some.i Sealed) (sym c.state.view_is) c.in-Some.ensures.some in
    take_done s c.args.w c.in-Some.i (writer_of s c.args.w) c.set_phase.new.writers at.up (sym c.is_some.ensures ∙ c.if-is_some.false) (omega (arith, c.len.ensures, c.if-len-ge65535.false))
    at.place (at.place.writer (fresh s.table c.args.w)) (ap (λ (q : Phase). code q == code Sealed) at.phase) c.set_phase.ensures
    ∙ ap (λ (t : World). after t (Take c.args.w)) c.state.view_is

pub invariant_of-state : goal.invariant_of-state
invariant_of-state c = subst IsReached (sym (returns-clause-state c)) (subst (λ (t : World). IsReached (after t (Take c.args.w))) c.state.view_is (reached_step _ (Take c.args.w) c.state.invariant))
