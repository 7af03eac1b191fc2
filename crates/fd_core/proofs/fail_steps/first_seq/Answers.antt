use Rattle.std.proofs.Common.{◌≡◌, false, sym, ◌∙◌, ap, subst, arith}
use Rattle.fd_machine.specs.World.{World}
use Rattle.fd_machine.specs.Machine.{writer_in}
use Rattle.fd_machine.specs.declared.machine.Writer.{Writer}
use Rattle.fd_machine.proofs.Reached.{reached_up}
use Rattle.fd_core.proofs.TableReads.{lists_some}
use Rattle.fd_core.proofs.FailSteps.{first_fits}
use Rattle.fd_core.proofs.fail_steps.first_seq.Goals as goal

pub greatest-requires : goal.greatest-requires
greatest-requires c =
    let s : World = record { table = c.state.inside.table; files = c.state.inside.files; history = c.state.inside.history; writers = c.state.inside.writers; owner = c.state.inside.owner; doubt = c.state.inside.doubt; readers = c.state.inside.readers; down = c.state.inside.down } in
    let up : s.down ≡ false = ap (λ (t : World). t.down) c.state.view_is ∙ c.requires.up in
    lists_some s (reached_up s c.state.invariant up)

pub overflow_add-result : goal.overflow_add-result
overflow_add-result c =
    let s : World = record { table = c.state.inside.table; files = c.state.inside.files; history = c.state.inside.history; writers = c.state.inside.writers; owner = c.state.inside.owner; doubt = c.state.inside.doubt; readers = c.state.inside.readers; down = c.state.inside.down } in
    let up : s.down ≡ false = ap (λ (t : World). t.down) c.state.view_is ∙ c.requires.up in
    let unknown = subst (λ (t : World). (o : Writer) → writer_in t.writers c.args.w o ≡ o) (sym c.state.view_is) c.requires.unknown in
    let fits = first_fits s c.args.w c.state.invariant up unknown in
    omega (arith, fits, c.greatest.ensures)
