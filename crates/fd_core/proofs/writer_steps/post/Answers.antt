use Rattle.std.proofs.Common.{◌==◌, ◌≡◌, true, sym, ◌∙◌, ap, subst}
use Rattle.fd_machine.specs.World.{World}
use Rattle.fd_machine.specs.Took.{IsAt, IsReached}
use Rattle.fd_machine.specs.Machine.{after, code, is_in_phase}
use Rattle.fd_machine.specs.declared.machine.Phase.{Phase}
use Rattle.fd_machine.specs.declared.machine.Phase.TheVariants.{Listed}
use Rattle.fd_machine.specs.declared.machine.Step.TheVariants.{Post}
use Rattle.fd_machine.proofs.Reached.{phase_at, post_done, reached_step}
use Rattle.fd_core.proofs.writer_steps.post.Goals as goal

pub returns-clause-ok : goal.returns-clause-ok
returns-clause-ok c =
    let s : World = record { table = c.state.inside.table; files = c.state.inside.files; history = c.state.inside.history; writers = c.state.inside.writers; owner = c.state.inside.owner; doubt = c.state.inside.doubt; readers = c.state.inside.readers; down = c.state.inside.down } in
    let at : IsAt s c.args.w c.in-Some.i Listed = subst (λ (t : World). IsAt t c.args.w c.in-Some.i Listed) (sym c.state.view_is) c.in-Some.ensures.some in
    let listed : is_in_phase c.at.result.now Listed ≡ true = ap (λ (q : Phase). code q == code Listed) (phase_at s c.args.w c.in-Some.i Listed c.at.result.now at c.at.ensures) in
    post_done s c.args.w c.in-Some.i c.at.result.now c.in_ok-batch.batch c.push.new.self c.set_phase.new.writers at.up at.place c.at.ensures listed c.in_ok-batch.ensures c.in_ok-push.ensures.ok c.set_phase.ensures
    ∙ ap (λ (t : World). after t (Post c.args.w)) c.state.view_is

pub invariant_of-state-2 : goal.invariant_of-state-2
invariant_of-state-2 c = subst IsReached (sym (returns-clause-ok c)) (subst (λ (t : World). IsReached (after t (Post c.args.w))) c.state.view_is (reached_step _ (Post c.args.w) c.state.invariant))
