use Rattle.std.proofs.Common.{◌==◌, sym, ◌∙◌, ap, subst}
use Rattle.fd_machine.specs.World.{World}
use Rattle.fd_machine.specs.Took.{IsAt, IsReached}
use Rattle.fd_machine.specs.Machine.{after, code, file_of, put_file}
use Rattle.fd_machine.specs.declared.machine.Phase.{Phase}
use Rattle.fd_machine.specs.declared.machine.Phase.TheVariants.{Written}
use Rattle.fd_machine.specs.declared.machine.Step.TheVariants.{SyncIndex}
use Rattle.fd_machine.proofs.Reached.{phase_at, reached_step}
use Rattle.fd_core.proofs.FillSteps.{sync_index_done}
use Rattle.fd_disk.specs.Images.{synced}
use Rattle.fd_disk.specs.declared.folders.FileName.{FileName}
use Rattle.fd_core.proofs.writer_steps.sync_index.Goals as goal

pub returns-clause-ok : goal.returns-clause-ok
returns-clause-ok c =
    let s : World = record { table = c.state.inside.table; files = c.state.inside.files; history = c.state.inside.history; writers = c.state.inside.writers; owner = c.state.inside.owner; doubt = c.state.inside.doubt; readers = c.state.inside.readers; down = c.state.inside.down } in
    let at : IsAt s c.args.w c.in-Some.i Written = subst (λ (t : World). IsAt t c.args.w c.in-Some.i Written) (sym c.state.view_is) c.in-Some.ensures.some in
    sync_index_done s c.args.w c.in-Some.i c.at-writer.result.now c.sync.new.files c.set_phase.new.writers at.up at.place c.at-writer.ensures (ap (λ (q : Phase). code q == code Written) (phase_at s c.args.w c.in-Some.i Written c.at-writer.result.now at c.at-writer.ensures))
    (c.in_ok-sync.ensures.ok ∙ ap (λ (n : FileName). put_file s.files n (synced (file_of s.files n))) c.file-name.ensures) c.set_phase.ensures
    ∙ ap (λ (t : World). after t (SyncIndex c.args.w)) c.state.view_is

pub invariant_of-state-2 : goal.invariant_of-state-2
invariant_of-state-2 c = subst IsReached (sym (returns-clause-ok c)) (subst (λ (t : World). IsReached (after t (SyncIndex c.args.w))) c.state.view_is (reached_step _ (SyncIndex c.args.w) c.state.invariant))
