use Rattle.std.proofs.Common.{sym, ◌∙◌, ap, subst}
use Rattle.fd_machine.specs.World.{World}
use Rattle.fd_machine.specs.Took.{IsReached}
use Rattle.fd_machine.specs.Machine.{after}
use Rattle.fd_machine.specs.declared.machine.Step.TheVariants.{Fail}
use Rattle.fd_machine.proofs.Reached.{reached_step}
use Rattle.fd_core.proofs.FailSteps.{fail_index_done}
use Rattle.fd_machine.specs.Took.{IsAt}
use Rattle.fd_machine.specs.declared.machine.Phase.TheVariants.{Synced}
use Rattle.fd_core.proofs.FillSteps.{place_bounded}
use Rattle.fd_machine.specs.Machine.{file_of, put_file}
use Rattle.fd_disk.specs.Images.{written}
use Rattle.fd_disk.specs.declared.folders.FileName.{FileName}
use Rattle.fd_core.proofs.fail_steps.fail_index.Goals as goal

pub rows_of-requires : goal.rows_of-requires
rows_of-requires c =
    let at = subst (λ (t : World). IsAt t c.args.w c.args.i Synced) (sym c.state.view_is) c.requires in
    place_bounded (record { table = c.state.inside.table; files = c.state.inside.files; history = c.state.inside.history; writers = c.state.inside.writers; owner = c.state.inside.owner; doubt = c.state.inside.doubt; readers = c.state.inside.readers; down = c.state.inside.down }) c.args.w c.args.i c.at-writer.result.now c.state.invariant at.up at.place c.at-writer.ensures

pub returns-clause-ok : goal.returns-clause-ok
returns-clause-ok c =
    let s : World = record { table = c.state.inside.table; files = c.state.inside.files; history = c.state.inside.history; writers = c.state.inside.writers; owner = c.state.inside.owner; doubt = c.state.inside.doubt; readers = c.state.inside.readers; down = c.state.inside.down } in
    let at = subst (λ (t : World). IsAt t c.args.w c.args.i Synced) (sym c.state.view_is) c.requires in
    fail_index_done s c.args.w c.args.i c.at-writer.result.now c.deref.result.now c.write.new.files c.set_phase.new.writers at c.at-writer.ensures (c.deref.ensures.value ∙ c.in_ok-rows.ensures)
    (c.in_ok-write.ensures.ok ∙ ap (λ (n : FileName). put_file s.files n (written (file_of s.files n) 0 c.deref.result.now)) c.file-name.ensures) c.set_phase.ensures
    ∙ ap (λ (t : World). after t (Fail c.args.w)) c.state.view_is

pub invariant_of-state-2 : goal.invariant_of-state-2
invariant_of-state-2 c = subst IsReached (sym (returns-clause-ok c)) (subst (λ (t : World). IsReached (after t (Fail c.args.w))) c.state.view_is (reached_step _ (Fail c.args.w) c.state.invariant))
