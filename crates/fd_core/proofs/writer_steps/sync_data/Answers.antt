use Rattle.std.proofs.Common.{sym, ◌∙◌, ap, subst, arith}
use Rattle.fd_machine.specs.World.{World}
use Rattle.fd_machine.specs.Took.{IsReached}
use Rattle.fd_machine.specs.Machine.{after}
use Rattle.fd_machine.specs.declared.machine.Step.TheVariants.{SyncData}
use Rattle.fd_machine.proofs.Reached.{reached_step}
use Rattle.fd_core.proofs.FillSteps.{not_empty, sync_data_done}
use Rattle.fd_machine.specs.Machine.{file_of, put_file}
use Rattle.fd_disk.specs.Images.{synced}
use Rattle.fd_disk.specs.declared.folders.FileName.{FileName}
use Rattle.fd_core.proofs.writer_steps.sync_data.Goals as goal

pub returns-clause-ok : goal.returns-clause-ok
returns-clause-ok c =
    let s : World = record { table = c.state.inside.table; files = c.state.inside.files; history = c.state.inside.history; writers = c.state.inside.writers; owner = c.state.inside.owner; doubt = c.state.inside.doubt; readers = c.state.inside.readers; down = c.state.inside.down } in
    sync_data_done s c.args.w c.in-Some.i c.at-writer.result.now c.sync.new.files c.set_phase.new.writers c.if-state.false c.in-Some.ensures.some c.at-writer.ensures (sym c.is_in.ensures ∙ c.if-not-is_in.false)
    (not_empty c.is_empty.result c.at-writer.result.now.pairs c.is_empty.ensures c.if-is_empty.false) (omega arith) (c.in_ok-sync.ensures.ok ∙ ap (λ (n : FileName). put_file s.files n (synced (file_of s.files n))) c.file-name.ensures) c.set_phase.ensures
    ∙ ap (λ (t : World). after t (SyncData c.args.w)) c.state.view_is

pub invariant_of-state-2 : goal.invariant_of-state-2
invariant_of-state-2 c = subst IsReached (sym (returns-clause-ok c)) (subst (λ (t : World). IsReached (after t (SyncData c.args.w))) c.state.view_is (reached_step _ (SyncData c.args.w) c.state.invariant))
