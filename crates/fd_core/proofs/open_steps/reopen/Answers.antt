use Rattle.std.proofs.Common.{ℕ, List, sym, ◌∙◌, ap, subst, []}
use Rattle.fd_machine.specs.World.{World}
use Rattle.fd_machine.specs.Took.{IsReached}
use Rattle.fd_machine.specs.Machine.{after}
use Rattle.fd_machine.specs.declared.machine.Step.TheVariants.{Reopen}
use Rattle.fd_machine.proofs.Reached.{reached_step}
use Rattle.fd_machine.proofs.OpenSteps.{down_held, down_lists, reopen_done}
use Rattle.fd_entries.specs.Table.{listed}
use Rattle.fd_entries.specs.Numbers.{entries_or_none}
use Rattle.fd_machine.specs.Took.{AllHeld}
use Rattle.fd_entries.specs.Numbers.{ListsSome}
use Rattle.fd_core.proofs.open_steps.reopen.Goals as goal

pub entries_of-requires : goal.entries_of-requires
entries_of-requires c = subst ListsSome (sym c.as_slice.ensures) (down_lists (record { table = c.state.inside.table; files = c.state.inside.files; history = c.state.inside.history; writers = c.state.inside.writers; owner = c.state.inside.owner; doubt = c.state.inside.doubt; readers = c.state.inside.readers; down = c.state.inside.down }) c.state.invariant c.if-not-state.false)

pub batches_of-requires : goal.batches_of-requires
batches_of-requires c = subst (AllHeld c.state.inside.files) (sym (c.in_ok-entries.ensures ∙ ap (λ (l : List ℕ). entries_or_none (listed [] l)) c.as_slice.ensures)) (down_held (record { table = c.state.inside.table; files = c.state.inside.files; history = c.state.inside.history; writers = c.state.inside.writers; owner = c.state.inside.owner; doubt = c.state.inside.doubt; readers = c.state.inside.readers; down = c.state.inside.down }) c.state.invariant c.if-not-state.false)

pub returns-clause-ok : goal.returns-clause-ok
returns-clause-ok c =
    let s : World = record { table = c.state.inside.table; files = c.state.inside.files; history = c.state.inside.history; writers = c.state.inside.writers; owner = c.state.inside.owner; doubt = c.state.inside.doubt; readers = c.state.inside.readers; down = c.state.inside.down } in
    reopen_done s c.in_ok-entries.entries c.in_ok-history.history c.keep_listed.new.files c.if-not-state.false (c.in_ok-entries.ensures ∙ ap (λ (l : List ℕ). entries_or_none (listed [] l)) c.as_slice.ensures) c.in_ok-history.ensures c.keep_listed.ensures
    ∙ ap (λ (t : World). after t Reopen) c.state.view_is

pub invariant_of-state : goal.invariant_of-state
invariant_of-state c = subst IsReached (sym (returns-clause-ok c)) (subst (λ (t : World). IsReached (after t Reopen)) c.state.view_is (reached_step _ Reopen c.state.invariant))
