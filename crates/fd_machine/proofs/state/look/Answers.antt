use Rattle.std.proofs.Common.{sym, ◌∙◌, ap, subst, arith}
use Rattle.fd_machine.specs.World.{World}
use Rattle.fd_machine.specs.Took.{IsReached}
use Rattle.fd_machine.specs.Machine.{after}
use Rattle.fd_machine.specs.declared.machine.Step.TheVariants.{Look}
use Rattle.fd_machine.proofs.Reached.{reached_step, reached_few}
use Rattle.fd_machine.proofs.Reached.{look_done}
use Rattle.fd_machine.proofs.state.look.Goals as goal

pub overflow_cast-n : goal.overflow_cast-n
overflow_cast-n c = let few = reached_few _ c.state.invariant in omega (arith, few, c.len-n.ensures)

pub returns-clause-ok : goal.returns-clause-ok
returns-clause-ok c =
    let s : World = record { table = c.state.inside.table; files = c.state.inside.files; history = c.state.inside.history; writers = c.state.inside.writers; owner = c.state.inside.owner; doubt = c.state.inside.doubt; readers = c.state.inside.readers; down = c.state.inside.down } in
    look_done s c.args.r c.len-n.result c.see.new.readers c.if-state.false c.len-n.ensures c.in_ok-see.ensures.ok
    ∙ ap (λ (t : World). after t (Look c.args.r)) c.state.view_is

pub invariant_of-state-2 : goal.invariant_of-state-2
invariant_of-state-2 c = subst IsReached (sym (returns-clause-ok c)) (subst (λ (t : World). IsReached (after t (Look c.args.r))) c.state.view_is (reached_step _ (Look c.args.r) c.state.invariant))
