use Rattle.std.proofs.Common.{◌==◌, sym, ◌∙◌, ap, subst}
use Rattle.fd_machine.specs.World.{World}
use Rattle.fd_machine.specs.Took.{IsAt, IsReached}
use Rattle.fd_machine.specs.Machine.{after, code, fresh, writer_of}
use Rattle.fd_machine.specs.declared.machine.Phase.{Phase}
use Rattle.fd_machine.specs.declared.machine.Phase.TheVariants.{Posted}
use Rattle.fd_machine.specs.declared.machine.Step.TheVariants.{Release}
use Rattle.fd_machine.proofs.Reached.{release_done, release_fits, reached_step}
use Rattle.fd_core.proofs.writer_steps.release.Goals as goal

pub returns-clause-state : goal.returns-clause-state
returns-clause-state c =
    let s : World = record { table = c.state.inside.table; files = c.state.inside.files; history = c.state.inside.history; writers = c.state.inside.writers; owner = c.state.inside.owner; doubt = c.state.inside.doubt; readers = c.state.inside.readers; down = c.state.inside.down } in
    let at : IsAt s c.args.w c.in-Some.i Posted = subst (λ (t : World). IsAt t c.args.w c.in-Some.i Posted) (sym c.state.view_is) c.in-Some.ensures.some in
    release_done s c.args.w c.in-Some.i (writer_of s c.args.w) c.begin_next.new.writers at.up
    at.place (at.place.writer (fresh s.table c.args.w)) (ap (λ (q : Phase). code q == code Posted) at.phase) c.begin_next.ensures
    ∙ ap (λ (t : World). after t (Release c.args.w)) c.state.view_is

pub invariant_of-state : goal.invariant_of-state
invariant_of-state c = subst IsReached (sym (returns-clause-state c)) (subst (λ (t : World). IsReached (after t (Release c.args.w))) c.state.view_is (reached_step _ (Release c.args.w) c.state.invariant))

pub begin_next-requires-clause-numbered : goal.begin_next-requires-clause-numbered
begin_next-requires-clause-numbered c = λ x at_x.
    let s : World = record { table = c.state.inside.table; files = c.state.inside.files; history = c.state.inside.history; writers = c.state.inside.writers; owner = c.state.inside.owner; doubt = c.state.inside.doubt; readers = c.state.inside.readers; down = c.state.inside.down } in
    let at : IsAt s c.args.w c.in-Some.i Posted = subst (λ (t : World). IsAt t c.args.w c.in-Some.i Posted) (sym c.state.view_is) c.in-Some.ensures.some in
    release_fits s c.args.w c.in-Some.i (writer_of s c.args.w) x c.state.invariant at.up at.place (at.place.writer (fresh s.table c.args.w)) (ap (λ (q : Phase). code q == code Posted) at.phase) at_x
