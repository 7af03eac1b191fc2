use Rattle.std.proofs.Common.{◌≡◌, Some, [], subst}
use Rattle.std.specs.Prelude.{IfSome, OnOk}
use Rattle.fd_bytes.specs.Causes.{Rose}
use Rattle.fd_outcome.specs.Objects.{object}
use Rattle.fd_bulk.specs.Archived.{IsRead, OnDisk, OnInput}
use Rattle.fd_archive.specs.Kept.{InputKept}
use Rattle.fd_archive.proofs.ArchiveExits.{halted_ran, whole_ran}
use Rattle.fd_archive.proofs.Noticing.{fault_part, part_notices, whole_notices}
use Rattle.fd_archive.proofs.Outlasting.{halted_keeps, whole_keeps}
use Rattle.fd_archive.proofs.Told.{on_disk, rose_later}
use Rattle.fd_archive.proofs.storing.Setup.archive_by.Goals as goal

pub returns-in-Ok-clause-ran : goal.returns-in-Ok-clause-ran
returns-in-Ok-clause-ran g c = λ root faults le ruled.
    let a = g.W.Output.Sink.taken c.args.objects.now.output in
    let k = g.W.Output.Sink.faults c.args.objects.now.output in
    let left = g.W.Input.Source.left c.args.objects.now.input in
    let after = g.W.Input.Source.left c.store_all.new.input in
    let start = g.W.Store.Store.has c.args.objects.now.store in
    let now = g.W.Store.Store.has c.store_all.new.store in
    let is = c.in-Ok.is in
    whole_ran root c.args.self.now.given.now c.args.self.now.workers start now faults (g.W.Store.Store.faults c.store_all.new.store) (object left after (g.W.Input.Source.faults c.args.objects.now.input) (g.W.Input.Source.faults c.store_all.new.input)) a k
    (object (g.W.Report.Sink.taken c.args.objects.now.report) (g.W.Report.Sink.taken c.tell_counts.new.report) (g.W.Report.Sink.faults c.args.objects.now.report) (g.W.Report.Sink.faults c.tell_counts.new.report)) c.tell_counts.result c.args.self.now.schema.now ruled c.store_all.ensures.told
    c.in-Ok.bulk
    (subst (InputKept c.args.self.now.workers c.args.self.now.schema.now c.args.self.now.given.now left after start now) is c.store_all.ensures.stored)
    (subst (λ f. IfSome left (λ octets. OnOk f (after ≡ Some []))) is c.store_all.ensures.to_end)
    (subst (λ f. IsRead f (g.W.Input.Source.faults c.store_all.new.input ≡ g.W.Input.Source.faults c.args.objects.now.input)) is c.store_all.ensures.causes.calm)
    c.tell_counts.ensures

pub returns-in-Err-clause-ran : goal.returns-in-Err-clause-ran
returns-in-Err-clause-ran g c = λ root faults le ruled.
    let a = g.W.Output.Sink.taken c.args.objects.now.output in
    let k = g.W.Output.Sink.faults c.args.objects.now.output in
    let left = g.W.Input.Source.left c.args.objects.now.input in
    let after = g.W.Input.Source.left c.store_all.new.input in
    let start = g.W.Store.Store.has c.args.objects.now.store in
    let now = g.W.Store.Store.has c.store_all.new.store in
    let before = g.W.Input.Source.faults c.args.objects.now.input in
    let later = g.W.Input.Source.faults c.store_all.new.input in
    let first = g.W.Store.Store.faults c.args.objects.now.store in
    let last = g.W.Store.Store.faults c.store_all.new.store in
    let is = c.in-Err.is in
    halted_ran root c.args.self.now.given.now c.args.self.now.workers start now faults last (object left after before later) a k
    (object (g.W.Report.Sink.taken c.args.objects.now.report) (g.W.Report.Sink.taken c.tell_fault.new.report) (g.W.Report.Sink.faults c.args.objects.now.report) (g.W.Report.Sink.faults c.tell_fault.new.report)) c.tell_fault.result c.args.self.now.schema.now ruled c.store_all.ensures.told
    c.in-Err.fault
    (subst (InputKept c.args.self.now.workers c.args.self.now.schema.now c.args.self.now.given.now left after start now) is c.store_all.ensures.stored)
    (subst (λ f. IsRead f (later ≡ before)) is c.store_all.ensures.causes.calm)
    (subst (λ f. OnInput f (Rose before later)) is c.store_all.ensures.causes.read)
    (subst (λ f. OnDisk f (Rose faults last)) is (on_disk c.store_all.result (Rose first last) (Rose faults last) (rose_later faults first last le) c.store_all.ensures.causes.disk))
    c.tell_fault.ensures

pub returns-in-Ok-clause-outlasts : goal.returns-in-Ok-clause-outlasts
returns-in-Ok-clause-outlasts g c = λ root ruled.
    let left = g.W.Input.Source.left c.args.objects.now.input in
    let after = g.W.Input.Source.left c.store_all.new.input in
    let start = g.W.Store.Store.has c.args.objects.now.store in
    let now = g.W.Store.Store.has c.store_all.new.store in
    whole_keeps c.args.self.now.given.now c.args.self.now.workers start now left after c.tell_counts.result (g.W.Report.Sink.taken c.args.objects.now.report) (g.W.Report.Sink.taken c.tell_counts.new.report) (g.W.Report.Sink.faults c.args.objects.now.report) (g.W.Report.Sink.faults c.tell_counts.new.report)
    c.args.self.now.schema.now ruled c.store_all.ensures.told c.in-Ok.bulk _
    (subst (InputKept c.args.self.now.workers c.args.self.now.schema.now c.args.self.now.given.now left after start now) c.in-Ok.is c.store_all.ensures.stored)
    c.tell_counts.ensures

pub returns-in-Err-clause-outlasts : goal.returns-in-Err-clause-outlasts
returns-in-Err-clause-outlasts g c = λ root ruled.
    let left = g.W.Input.Source.left c.args.objects.now.input in
    let after = g.W.Input.Source.left c.store_all.new.input in
    let start = g.W.Store.Store.has c.args.objects.now.store in
    let now = g.W.Store.Store.has c.store_all.new.store in
    halted_keeps c.args.self.now.given.now c.args.self.now.workers start now left after c.tell_fault.result (g.W.Report.Sink.taken c.args.objects.now.report) (g.W.Report.Sink.taken c.tell_fault.new.report) (g.W.Report.Sink.faults c.args.objects.now.report) (g.W.Report.Sink.faults c.tell_fault.new.report)
    c.args.self.now.schema.now ruled c.store_all.ensures.told c.in-Err.fault
    (subst (InputKept c.args.self.now.workers c.args.self.now.schema.now c.args.self.now.given.now left after start now) c.in-Err.is c.store_all.ensures.stored)
    c.tell_fault.ensures

pub returns-in-Ok-clause-notices : goal.returns-in-Ok-clause-notices
returns-in-Ok-clause-notices g c = λ root ruled.
    let a = g.W.Output.Sink.taken c.args.objects.now.output in
    let k = g.W.Output.Sink.faults c.args.objects.now.output in
    let left = g.W.Input.Source.left c.args.objects.now.input in
    let after = g.W.Input.Source.left c.store_all.new.input in
    let start = g.W.Store.Store.has c.args.objects.now.store in
    let now = g.W.Store.Store.has c.store_all.new.store in
    whole_notices root c.args.self.now.given.now c.args.self.now.workers start now (g.W.Store.Store.faults c.args.objects.now.store) (g.W.Store.Store.faults c.store_all.new.store) left after (g.W.Input.Source.faults c.args.objects.now.input) (g.W.Input.Source.faults c.store_all.new.input) (object a a k k)
    (object (g.W.Report.Sink.taken c.args.objects.now.report) (g.W.Report.Sink.taken c.tell_counts.new.report) (g.W.Report.Sink.faults c.args.objects.now.report) (g.W.Report.Sink.faults c.tell_counts.new.report)) c.tell_counts.result c.args.self.now.schema.now ruled c.in-Ok.bulk
    (subst (InputKept c.args.self.now.workers c.args.self.now.schema.now c.args.self.now.given.now left after start now) c.in-Ok.is c.store_all.ensures.stored)

pub returns-in-Err-clause-notices : goal.returns-in-Err-clause-notices
returns-in-Err-clause-notices g c = λ root ruled.
    let a = g.W.Output.Sink.taken c.args.objects.now.output in
    let k = g.W.Output.Sink.faults c.args.objects.now.output in
    part_notices root c.args.self.now.given.now c.args.self.now.workers (g.W.Store.Store.has c.args.objects.now.store) (g.W.Store.Store.has c.store_all.new.store) (g.W.Store.Store.faults c.args.objects.now.store) (g.W.Store.Store.faults c.store_all.new.store)
    (g.W.Input.Source.left c.args.objects.now.input) (g.W.Input.Source.left c.store_all.new.input) (g.W.Input.Source.faults c.args.objects.now.input) (g.W.Input.Source.faults c.store_all.new.input) (object a a k k)
    (object (g.W.Report.Sink.taken c.args.objects.now.report) (g.W.Report.Sink.taken c.tell_fault.new.report) (g.W.Report.Sink.faults c.args.objects.now.report) (g.W.Report.Sink.faults c.tell_fault.new.report)) c.tell_fault.result
    (fault_part c.in-Err.fault c.tell_fault.result _ _ _ _ c.tell_fault.ensures)
