use Rattle.std.proofs.Common.{refl, subst}
use Rattle.fd_bytes.specs.Causes.{Rose}
use Rattle.fd_disk.specs.Folders.{WhereTold}
use Rattle.fd_words.specs.declared.command.Command.TheVariants.{Trial}
use Rattle.fd_outcome.proofs.Starved.{starved}
use Rattle.fd_trial.specs.Ruling.{IsLeft, IsUnruledIn, OnDisk}
use Rattle.fd_stored.specs.declared.status.Status.TheVariants.{DiskFault, NoMemory, Refused}
use Rattle.fd_archive.proofs.Outlasting.{idle_trial, told_undone}
use Rattle.fd_outcome.specs.Objects.{object}
use Rattle.fd_archive.proofs.Noticing.{some_part, told_part}
use Rattle.fd_trial.proofs.Noticing.{early_spares, part_notices, planted_spares, same_spares, whole_notices}
use Rattle.fd_trial.proofs.Outlasting.{early, since_planted, some_undone}
use Rattle.fd_trial.proofs.Stepping.{where_told}
use Rattle.fd_trial.proofs.TrialExits.{different_ran, disk_early, schema_ran, starved_early}
use Rattle.fd_trial.proofs.command.trial.Goals as goal

pub returns-in_default-clause-ran : goal.returns-in_default-clause-ran
returns-in_default-clause-ran g c =
    let left = g.W.Input.Source.left c.args.objects.now.input in
    let l = g.W.Input.Source.faults c.args.objects.now.input in
    let a = g.W.Output.Sink.taken c.args.objects.now.output in
    let k = g.W.Output.Sink.faults c.args.objects.now.output in
    starved (Trial c.args.root.now c.args.count c.args.workers) c.tell_no_memory.result (g.W.Store.Store.has c.args.objects.now.store) (g.W.Store.Store.faults c.args.objects.now.store) (g.W.Store.Store.faults c.args.objects.now.store) left left l l a k k
    (g.W.Report.Sink.taken c.args.objects.now.report) (g.W.Report.Sink.taken c.tell_no_memory.new.report) (g.W.Report.Sink.faults c.args.objects.now.report) (g.W.Report.Sink.faults c.tell_no_memory.new.report) c.tell_no_memory.ensures

pub returns-in-Ok-ruled-clause-ran : goal.returns-in-Ok-ruled-clause-ran
returns-in-Ok-ruled-clause-ran g c =
    c.run.ensures.ran c.args.root.now (g.W.Store.Store.has c.args.objects.now.store) (g.W.Store.Store.faults c.args.objects.now.store) c.ruled.ensures.later c.in-Ok-ruled.ensures.rules

pub returns-in-Err-Disk-clause-ran : goal.returns-in-Err-Disk-clause-ran
returns-in-Err-Disk-clause-ran g c =
    let left = g.W.Input.Source.left c.args.objects.now.input in
    let l = g.W.Input.Source.faults c.args.objects.now.input in
    let a = g.W.Output.Sink.taken c.args.objects.now.output in
    let k = g.W.Output.Sink.faults c.args.objects.now.output in
    let now = g.W.Store.Store.has c.ruled.new.store in
    disk_early c.args.root.now c.args.count c.args.workers (g.W.Store.Store.has c.args.objects.now.store) now _ _ left l a k _ c.tell_disk_failed.result
    (where_told (g.W.Store.Store.has c.args.objects.now.store) now _ IsLeft (λ h i x. x.0) c.in-Err-Disk.ensures.unruled)
    (subst (λ e. OnDisk e (Rose (g.W.Store.Store.faults c.args.objects.now.store) (g.W.Store.Store.faults c.ruled.new.store))) c.in-Err-Disk.field-0-is c.in-Err-Disk.ensures.disk) c.tell_disk_failed.ensures

pub returns-in-Err-Different-clause-ran : goal.returns-in-Err-Different-clause-ran
returns-in-Err-Different-clause-ran g c =
    let left = g.W.Input.Source.left c.args.objects.now.input in
    let l = g.W.Input.Source.faults c.args.objects.now.input in
    let a = g.W.Output.Sink.taken c.args.objects.now.output in
    let k = g.W.Output.Sink.faults c.args.objects.now.output in
    different_ran c.args.root.now c.args.count c.args.workers (g.W.Store.Store.has c.args.objects.now.store) (g.W.Store.Store.has c.ruled.new.store) _ _ left l a k _ c.tell.result
    (subst (λ e. WhereTold (g.W.Store.Store.has c.args.objects.now.store) (g.W.Store.Store.has c.ruled.new.store) (λ h i. IsLeft h i × IsUnruledIn h e)) c.in-Err-Different.field-0-is c.in-Err-Different.ensures.unruled) c.tell.ensures

pub returns-in-Err-At-clause-ran : goal.returns-in-Err-At-clause-ran
returns-in-Err-At-clause-ran g c =
    let left = g.W.Input.Source.left c.args.objects.now.input in
    let l = g.W.Input.Source.faults c.args.objects.now.input in
    let a = g.W.Output.Sink.taken c.args.objects.now.output in
    let k = g.W.Output.Sink.faults c.args.objects.now.output in
    schema_ran c.args.root.now c.args.count c.args.workers (g.W.Store.Store.has c.args.objects.now.store) (g.W.Store.Store.has c.ruled.new.store) _ _ left l a k _ c.tell_schema.result
    c.in-Err-At.line c.in-Err-At.kind c.tell_schema.ensures.some c.tell_schema.ensures.told
    (subst (λ e. WhereTold (g.W.Store.Store.has c.args.objects.now.store) (g.W.Store.Store.has c.ruled.new.store) (λ h i. IsLeft h i × IsUnruledIn h e)) c.in-Err-At.field-0-is c.in-Err-At.ensures.unruled)

pub returns-clause-ran : goal.returns-clause-ran
returns-clause-ran g c =
    let left = g.W.Input.Source.left c.args.objects.now.input in
    let l = g.W.Input.Source.faults c.args.objects.now.input in
    let a = g.W.Output.Sink.taken c.args.objects.now.output in
    let k = g.W.Output.Sink.faults c.args.objects.now.output in
    let now = g.W.Store.Store.has c.ruled.new.store in
    starved_early c.args.root.now c.args.count c.args.workers (g.W.Store.Store.has c.args.objects.now.store) now _ _ left l a k _ c.tell_no_memory-in-Err-NoMemory.result
    (where_told (g.W.Store.Store.has c.args.objects.now.store) now _ IsLeft (λ h i x. x.0) c.in-Err-NoMemory.ensures.unruled) c.tell_no_memory-in-Err-NoMemory.ensures

pub returns-in_default-clause-outlasts : goal.returns-in_default-clause-outlasts
returns-in_default-clause-outlasts g c = idle_trial c.tell_no_memory.result c.args.workers c.args.count (g.W.Store.Store.has c.args.objects.now.store) (told_undone NoMemory _ c.tell_no_memory.result _ _ _ _ refl c.tell_no_memory.ensures)

pub returns-in-Ok-ruled-clause-outlasts : goal.returns-in-Ok-ruled-clause-outlasts
returns-in-Ok-ruled-clause-outlasts g c =
    since_planted c.run.result c.args.workers c.args.count c.in-Ok-ruled.schema (g.W.Store.Store.has c.args.objects.now.store) (g.W.Store.Store.has c.ruled.new.store) (g.W.Store.Store.has c.run.new.objects.store) c.in-Ok-ruled.ensures.rules c.ruled.ensures.kept c.run.ensures.outlasts

pub returns-in-Err-Disk-clause-outlasts : goal.returns-in-Err-Disk-clause-outlasts
returns-in-Err-Disk-clause-outlasts g c =
    early c.tell_disk_failed.result c.args.workers c.args.count (g.W.Store.Store.has c.args.objects.now.store) (g.W.Store.Store.has c.ruled.new.store) c.ruled.ensures.kept (told_undone DiskFault _ c.tell_disk_failed.result _ _ _ _ refl c.tell_disk_failed.ensures)

pub returns-in-Err-Different-clause-outlasts : goal.returns-in-Err-Different-clause-outlasts
returns-in-Err-Different-clause-outlasts g c =
    early c.tell.result c.args.workers c.args.count (g.W.Store.Store.has c.args.objects.now.store) (g.W.Store.Store.has c.ruled.new.store) c.ruled.ensures.kept (told_undone Refused _ c.tell.result _ _ _ _ refl c.tell.ensures)

pub returns-in-Err-At-clause-outlasts : goal.returns-in-Err-At-clause-outlasts
returns-in-Err-At-clause-outlasts g c =
    early c.tell_schema.result c.args.workers c.args.count (g.W.Store.Store.has c.args.objects.now.store) (g.W.Store.Store.has c.ruled.new.store) c.ruled.ensures.kept (some_undone c.tell_schema.result _ _ _ _ c.tell_schema.ensures.some)

pub returns-clause-outlasts : goal.returns-clause-outlasts
returns-clause-outlasts g c =
    early c.tell_no_memory-in-Err-NoMemory.result c.args.workers c.args.count (g.W.Store.Store.has c.args.objects.now.store) (g.W.Store.Store.has c.ruled.new.store) c.ruled.ensures.kept (told_undone NoMemory _ c.tell_no_memory-in-Err-NoMemory.result _ _ _ _ refl c.tell_no_memory-in-Err-NoMemory.ensures)

pub returns-in_default-clause-notices : goal.returns-in_default-clause-notices
returns-in_default-clause-notices g c =
    let left = g.W.Input.Source.left c.args.objects.now.input in
    let l = g.W.Input.Source.faults c.args.objects.now.input in
    let a = g.W.Output.Sink.taken c.args.objects.now.output in
    let k = g.W.Output.Sink.faults c.args.objects.now.output in
    part_notices c.args.count c.args.workers c.args.root.now (g.W.Store.Store.has c.args.objects.now.store) (g.W.Store.Store.has c.args.objects.now.store) (g.W.Store.Store.faults c.args.objects.now.store) (g.W.Store.Store.faults c.args.objects.now.store) left l a k (object (g.W.Report.Sink.taken c.args.objects.now.report) (g.W.Report.Sink.taken c.tell_no_memory.new.report) (g.W.Report.Sink.faults c.args.objects.now.report) (g.W.Report.Sink.faults c.tell_no_memory.new.report)) c.tell_no_memory.result (told_part _ _ c.tell_no_memory.result _ _ _ _ c.tell_no_memory.ensures refl)

pub returns-in_default-clause-spares : goal.returns-in_default-clause-spares
returns-in_default-clause-spares g c = same_spares (g.W.Store.Store.has c.args.objects.now.store)

pub returns-in-Err-Disk-clause-notices : goal.returns-in-Err-Disk-clause-notices
returns-in-Err-Disk-clause-notices g c =
    let left = g.W.Input.Source.left c.args.objects.now.input in
    let l = g.W.Input.Source.faults c.args.objects.now.input in
    let a = g.W.Output.Sink.taken c.args.objects.now.output in
    let k = g.W.Output.Sink.faults c.args.objects.now.output in
    part_notices c.args.count c.args.workers c.args.root.now (g.W.Store.Store.has c.args.objects.now.store) (g.W.Store.Store.has c.ruled.new.store) (g.W.Store.Store.faults c.args.objects.now.store) (g.W.Store.Store.faults c.ruled.new.store) left l a k (object (g.W.Report.Sink.taken c.args.objects.now.report) (g.W.Report.Sink.taken c.tell_disk_failed.new.report) (g.W.Report.Sink.faults c.args.objects.now.report) (g.W.Report.Sink.faults c.tell_disk_failed.new.report)) c.tell_disk_failed.result (told_part _ _ c.tell_disk_failed.result _ _ _ _ c.tell_disk_failed.ensures refl)

pub returns-in-Err-Disk-clause-spares : goal.returns-in-Err-Disk-clause-spares
returns-in-Err-Disk-clause-spares g c = early_spares (g.W.Store.Store.has c.args.objects.now.store) (g.W.Store.Store.has c.ruled.new.store) c.ruled.ensures.kept

pub returns-in-Err-Different-clause-notices : goal.returns-in-Err-Different-clause-notices
returns-in-Err-Different-clause-notices g c =
    let left = g.W.Input.Source.left c.args.objects.now.input in
    let l = g.W.Input.Source.faults c.args.objects.now.input in
    let a = g.W.Output.Sink.taken c.args.objects.now.output in
    let k = g.W.Output.Sink.faults c.args.objects.now.output in
    part_notices c.args.count c.args.workers c.args.root.now (g.W.Store.Store.has c.args.objects.now.store) (g.W.Store.Store.has c.ruled.new.store) (g.W.Store.Store.faults c.args.objects.now.store) (g.W.Store.Store.faults c.ruled.new.store) left l a k (object (g.W.Report.Sink.taken c.args.objects.now.report) (g.W.Report.Sink.taken c.tell.new.report) (g.W.Report.Sink.faults c.args.objects.now.report) (g.W.Report.Sink.faults c.tell.new.report)) c.tell.result (told_part _ _ c.tell.result _ _ _ _ c.tell.ensures refl)

pub returns-in-Err-Different-clause-spares : goal.returns-in-Err-Different-clause-spares
returns-in-Err-Different-clause-spares g c = early_spares (g.W.Store.Store.has c.args.objects.now.store) (g.W.Store.Store.has c.ruled.new.store) c.ruled.ensures.kept

pub returns-in-Err-At-clause-notices : goal.returns-in-Err-At-clause-notices
returns-in-Err-At-clause-notices g c =
    let left = g.W.Input.Source.left c.args.objects.now.input in
    let l = g.W.Input.Source.faults c.args.objects.now.input in
    let a = g.W.Output.Sink.taken c.args.objects.now.output in
    let k = g.W.Output.Sink.faults c.args.objects.now.output in
    part_notices c.args.count c.args.workers c.args.root.now (g.W.Store.Store.has c.args.objects.now.store) (g.W.Store.Store.has c.ruled.new.store) (g.W.Store.Store.faults c.args.objects.now.store) (g.W.Store.Store.faults c.ruled.new.store) left l a k (object (g.W.Report.Sink.taken c.args.objects.now.report) (g.W.Report.Sink.taken c.tell_schema.new.report) (g.W.Report.Sink.faults c.args.objects.now.report) (g.W.Report.Sink.faults c.tell_schema.new.report)) c.tell_schema.result (some_part c.tell_schema.result _ _ _ _ c.tell_schema.ensures.some)

pub returns-in-Err-At-clause-spares : goal.returns-in-Err-At-clause-spares
returns-in-Err-At-clause-spares g c = early_spares (g.W.Store.Store.has c.args.objects.now.store) (g.W.Store.Store.has c.ruled.new.store) c.ruled.ensures.kept

pub returns-clause-notices : goal.returns-clause-notices
returns-clause-notices g c =
    let left = g.W.Input.Source.left c.args.objects.now.input in
    let l = g.W.Input.Source.faults c.args.objects.now.input in
    let a = g.W.Output.Sink.taken c.args.objects.now.output in
    let k = g.W.Output.Sink.faults c.args.objects.now.output in
    part_notices c.args.count c.args.workers c.args.root.now (g.W.Store.Store.has c.args.objects.now.store) (g.W.Store.Store.has c.ruled.new.store) (g.W.Store.Store.faults c.args.objects.now.store) (g.W.Store.Store.faults c.ruled.new.store) left l a k (object (g.W.Report.Sink.taken c.args.objects.now.report) (g.W.Report.Sink.taken c.tell_no_memory-in-Err-NoMemory.new.report) (g.W.Report.Sink.faults c.args.objects.now.report) (g.W.Report.Sink.faults c.tell_no_memory-in-Err-NoMemory.new.report)) c.tell_no_memory-in-Err-NoMemory.result (told_part _ _ c.tell_no_memory-in-Err-NoMemory.result _ _ _ _ c.tell_no_memory-in-Err-NoMemory.ensures refl)

pub returns-clause-spares : goal.returns-clause-spares
returns-clause-spares g c = early_spares (g.W.Store.Store.has c.args.objects.now.store) (g.W.Store.Store.has c.ruled.new.store) c.ruled.ensures.kept

pub returns-in-Ok-ruled-clause-notices : goal.returns-in-Ok-ruled-clause-notices
returns-in-Ok-ruled-clause-notices g c =
    let left = g.W.Input.Source.left c.args.objects.now.input in
    let l = g.W.Input.Source.faults c.args.objects.now.input in
    let a = g.W.Output.Sink.taken c.args.objects.now.output in
    let k = g.W.Output.Sink.faults c.args.objects.now.output in
    whole_notices c.args.count c.args.workers c.args.root.now (g.W.Store.Store.has c.args.objects.now.store) (g.W.Store.Store.has c.run.new.objects.store) (g.W.Store.Store.faults c.args.objects.now.store) (g.W.Store.Store.faults c.run.new.objects.store) left l a k (object (g.W.Report.Sink.taken c.args.objects.now.report) (g.W.Report.Sink.taken c.run.new.objects.report) (g.W.Report.Sink.faults c.args.objects.now.report) (g.W.Report.Sink.faults c.run.new.objects.report)) c.run.result c.in-Ok-ruled.schema (g.W.Store.Store.has c.ruled.new.store)
    c.in-Ok-ruled.ensures.rules c.ruled.ensures.kept c.run.ensures.undamaged

pub returns-in-Ok-ruled-clause-spares : goal.returns-in-Ok-ruled-clause-spares
returns-in-Ok-ruled-clause-spares g c = planted_spares (g.W.Store.Store.has c.args.objects.now.store) (g.W.Store.Store.has c.ruled.new.store) (g.W.Store.Store.has c.run.new.objects.store) c.ruled.ensures.kept c.run.ensures.spares
