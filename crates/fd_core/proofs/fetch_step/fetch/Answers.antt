use Rattle.std.proofs.Common.{◌≤◌, length, sym, subst}
use Rattle.fd_machine.specs.World.{World}
use Rattle.fd_machine.proofs.Reached.{reached_up}
use Rattle.fd_machine.proofs.OpenSteps.{seen_small}
use Rattle.fd_core.proofs.fetch_step.fetch.Goals as goal

pub newest_of-requires-clause-listed : goal.newest_of-requires-clause-listed
newest_of-requires-clause-listed c =
    let s : World = record { table = c.state.inside.table; files = c.state.inside.files; history = c.state.inside.history; writers = c.state.inside.writers; owner = c.state.inside.owner; doubt = c.state.inside.doubt; readers = c.state.inside.readers; down = c.state.inside.down } in
    subst (λ (t : World). c.in-Some.length ≤ length t.history) c.state.view_is (seen_small s (reached_up s c.state.invariant c.if-state.false) c.args.r c.in-Some.length (sym c.in-Some.ensures))
