use Rattle.std.proofs.Common.{◌≡◌, ◌∙◌, Ok, refl, sym, subst}
use Rattle.std.specs.Prelude.{IfSome}
use Rattle.fd_disk.specs.Folders.{WhereTold}
use Rattle.fd_words.specs.declared.command.Command.TheVariants.{Archive}
use Rattle.fd_outcome.specs.Asking.{rules_of}
use Rattle.fd_outcome.specs.Noticing.{Notices}
use Rattle.fd_stored.specs.Sparing.{SparesDamaged}
use Rattle.fd_outcome.specs.Objects.{object}
use Rattle.fd_outcome.specs.Ran.{Ran}
use Rattle.fd_bulk.proofs.Sparing.{same_spared}
use Rattle.fd_archive.specs.Crashing.{OutlastsCrash}
use Rattle.fd_archive.proofs.Noticing.{part_notices, ruled_fitly, unread_fitly}
use Rattle.fd_archive.proofs.Unruling.{unruled_lasts, unruled_part, unruled_ran}
use Rattle.fd_archive.proofs.command.archive.Goals as goal

pub returns-in-Ok-clause-ran : goal.returns-in-Ok-clause-ran
returns-in-Ok-clause-ran g c =
    subst (λ h. Ran (Archive c.args.root.now c.args.given.now c.args.workers) c.archive_by.result (object h (g.W.Store.Store.has c.archive_by.new.objects.store) (g.W.Store.Store.faults c.args.objects.now.store) (g.W.Store.Store.faults c.archive_by.new.objects.store)) (object (g.W.Input.Source.left c.args.objects.now.input) (g.W.Input.Source.left c.archive_by.new.objects.input) (g.W.Input.Source.faults c.args.objects.now.input) (g.W.Input.Source.faults c.archive_by.new.objects.input)) (object (g.W.Output.Sink.taken c.args.objects.now.output) (g.W.Output.Sink.taken c.archive_by.new.objects.output) (g.W.Output.Sink.faults c.args.objects.now.output) (g.W.Output.Sink.faults c.archive_by.new.objects.output)) (object (g.W.Report.Sink.taken c.args.objects.now.report) (g.W.Report.Sink.taken c.archive_by.new.objects.report) (g.W.Report.Sink.faults c.args.objects.now.report) (g.W.Report.Sink.faults c.archive_by.new.objects.report)))
    c.stored_schema.ensures.has
    (c.archive_by.ensures.ran c.args.root.now (g.W.Store.Store.faults c.args.objects.now.store) c.stored_schema.ensures.later
    (subst (λ h. IfSome h (λ h. rules_of h.schema ≡ Ok c.in-Ok.schema)) (sym c.stored_schema.ensures.has) c.in-Ok.ensures.ok))

pub returns-in-Err-clause-ran : goal.returns-in-Err-clause-ran
returns-in-Err-clause-ran g c =
    let a = g.W.Output.Sink.taken c.args.objects.now.output in
    let k = g.W.Output.Sink.faults c.args.objects.now.output in
    unruled_ran c.args.root.now c.args.given.now c.args.workers (g.W.Store.Store.has c.args.objects.now.store) (g.W.Store.Store.has c.tell_unruled.new.store) (g.W.Store.Store.faults c.args.objects.now.store) (g.W.Store.Store.faults c.stored_schema.new.store) (g.W.Store.Store.faults c.tell_unruled.new.store)
    (g.W.Input.Source.left c.args.objects.now.input) (g.W.Input.Source.faults c.args.objects.now.input) (g.W.Report.Sink.taken c.args.objects.now.report) (g.W.Report.Sink.taken c.tell_unruled.new.report) (g.W.Report.Sink.faults c.args.objects.now.report) (g.W.Report.Sink.faults c.tell_unruled.new.report) c.tell_unruled.result (c.tell_unruled.ensures.has ∙ c.stored_schema.ensures.has)
    c.in-Err.unruled c.in-Err.ensures.err c.tell_unruled.ensures.told c.stored_schema.ensures.later c.tell_unruled.ensures.noted a k

pub returns-in-Ok-clause-outlasts : goal.returns-in-Ok-clause-outlasts
returns-in-Ok-clause-outlasts g c =
    subst (λ h. OutlastsCrash (Archive c.args.root.now c.args.given.now c.args.workers) c.archive_by.result (object h (g.W.Store.Store.has c.archive_by.new.objects.store) (g.W.Store.Store.faults c.args.objects.now.store) (g.W.Store.Store.faults c.archive_by.new.objects.store)) (object (g.W.Input.Source.left c.args.objects.now.input) (g.W.Input.Source.left c.archive_by.new.objects.input) (g.W.Input.Source.faults c.args.objects.now.input) (g.W.Input.Source.faults c.archive_by.new.objects.input)) (object (g.W.Report.Sink.taken c.args.objects.now.report) (g.W.Report.Sink.taken c.archive_by.new.objects.report) (g.W.Report.Sink.faults c.args.objects.now.report) (g.W.Report.Sink.faults c.archive_by.new.objects.report)))
    c.stored_schema.ensures.has
    (c.archive_by.ensures.outlasts c.args.root.now
    (subst (λ h. IfSome h (λ h. rules_of h.schema ≡ Ok c.in-Ok.schema)) (sym c.stored_schema.ensures.has) c.in-Ok.ensures.ok))

pub returns-in-Err-clause-outlasts : goal.returns-in-Err-clause-outlasts
returns-in-Err-clause-outlasts g c =
    unruled_lasts c.args.root.now c.args.given.now c.args.workers (g.W.Store.Store.has c.args.objects.now.store) (g.W.Store.Store.has c.tell_unruled.new.store) (g.W.Store.Store.faults c.args.objects.now.store) (g.W.Store.Store.faults c.stored_schema.new.store) (g.W.Store.Store.faults c.tell_unruled.new.store)
    (g.W.Input.Source.left c.args.objects.now.input) (g.W.Input.Source.faults c.args.objects.now.input) (g.W.Report.Sink.taken c.args.objects.now.report) (g.W.Report.Sink.taken c.tell_unruled.new.report) (g.W.Report.Sink.faults c.args.objects.now.report) (g.W.Report.Sink.faults c.tell_unruled.new.report) c.tell_unruled.result (c.tell_unruled.ensures.has ∙ c.stored_schema.ensures.has)
    c.in-Err.unruled c.in-Err.ensures.err c.tell_unruled.ensures.told

pub returns-in-Ok-clause-notices : goal.returns-in-Ok-clause-notices
returns-in-Ok-clause-notices g c =
    let start = g.W.Store.Store.has c.args.objects.now.store in
    let now = g.W.Store.Store.has c.archive_by.new.objects.store in
    let input = object (g.W.Input.Source.left c.args.objects.now.input) (g.W.Input.Source.left c.archive_by.new.objects.input) (g.W.Input.Source.faults c.args.objects.now.input) (g.W.Input.Source.faults c.archive_by.new.objects.input) in
    let report = object (g.W.Report.Sink.taken c.args.objects.now.report) (g.W.Report.Sink.taken c.archive_by.new.objects.report) (g.W.Report.Sink.faults c.args.objects.now.report) (g.W.Report.Sink.faults c.archive_by.new.objects.report) in
    subst (λ h. Notices (Archive c.args.root.now c.args.given.now c.args.workers) c.archive_by.result (object h now (g.W.Store.Store.faults c.args.objects.now.store) (g.W.Store.Store.faults c.archive_by.new.objects.store)) input (object (g.W.Output.Sink.taken c.args.objects.now.output) (g.W.Output.Sink.taken c.archive_by.new.objects.output) (g.W.Output.Sink.faults c.args.objects.now.output) (g.W.Output.Sink.faults c.archive_by.new.objects.output)) report) c.stored_schema.ensures.has
    (c.archive_by.ensures.notices c.args.root.now (subst (λ h. IfSome h (λ h. rules_of h.schema ≡ Ok c.in-Ok.schema)) (sym c.stored_schema.ensures.has) c.in-Ok.ensures.ok))

pub returns-in-Err-clause-notices : goal.returns-in-Err-clause-notices
returns-in-Err-clause-notices g c =
    let a = g.W.Output.Sink.taken c.args.objects.now.output in
    let k = g.W.Output.Sink.faults c.args.objects.now.output in
    let left = g.W.Input.Source.left c.args.objects.now.input in
    let faults = g.W.Input.Source.faults c.args.objects.now.input in
    part_notices c.args.root.now c.args.given.now c.args.workers (g.W.Store.Store.has c.args.objects.now.store) (g.W.Store.Store.has c.tell_unruled.new.store) (g.W.Store.Store.faults c.args.objects.now.store) (g.W.Store.Store.faults c.tell_unruled.new.store) left left faults faults (object a a k k)
    (object (g.W.Report.Sink.taken c.args.objects.now.report) (g.W.Report.Sink.taken c.tell_unruled.new.report) (g.W.Report.Sink.faults c.args.objects.now.report) (g.W.Report.Sink.faults c.tell_unruled.new.report)) c.tell_unruled.result
    (unruled_part c.in-Err.unruled c.tell_unruled.result _ _ _ _ c.tell_unruled.ensures.told)

pub returns-in-Ok-clause-unread : goal.returns-in-Ok-clause-unread
returns-in-Ok-clause-unread g c = ruled_fitly c.args.root.now c.args.given.now c.args.workers (g.W.Store.Store.has c.args.objects.now.store) (g.W.Store.Store.has c.archive_by.new.objects.store) (g.W.Store.Store.faults c.args.objects.now.store) (g.W.Store.Store.faults c.archive_by.new.objects.store)
    (g.W.Input.Source.left c.args.objects.now.input) (g.W.Input.Source.left c.archive_by.new.objects.input) (g.W.Input.Source.faults c.args.objects.now.input) (g.W.Input.Source.faults c.archive_by.new.objects.input) c.in-Ok.schema c.in-Ok.ensures.ok

pub returns-in-Err-clause-unread : goal.returns-in-Err-clause-unread
returns-in-Err-clause-unread g c = unread_fitly c.args.root.now c.args.given.now c.args.workers (g.W.Store.Store.has c.args.objects.now.store) (g.W.Store.Store.has c.tell_unruled.new.store) (g.W.Store.Store.faults c.args.objects.now.store) (g.W.Store.Store.faults c.tell_unruled.new.store)
    (g.W.Input.Source.left c.args.objects.now.input) (g.W.Input.Source.left c.args.objects.now.input) (g.W.Input.Source.faults c.args.objects.now.input) (g.W.Input.Source.faults c.args.objects.now.input) refl refl

pub returns-in-Ok-clause-spares : goal.returns-in-Ok-clause-spares
returns-in-Ok-clause-spares g c = subst (λ h. WhereTold h (g.W.Store.Store.has c.archive_by.new.objects.store) SparesDamaged) c.stored_schema.ensures.has c.archive_by.ensures.spares

pub returns-in-Err-clause-spares : goal.returns-in-Err-clause-spares
returns-in-Err-clause-spares g c = let start = g.W.Store.Store.has c.args.objects.now.store in subst (λ h. WhereTold start h SparesDamaged) (sym (c.tell_unruled.ensures.has ∙ c.stored_schema.ensures.has)) (same_spared start)
