use Rattle.std.proofs.Common.{None, IfSome, subst, sym}
use Rattle.fd_disk.specs.Folders.{WhereTold}
use Rattle.fd_words.specs.declared.command.Command.TheVariants.{Retrieve}
use Rattle.fd_outcome.specs.Asking.{asked_of}
use Rattle.fd_outcome.specs.Ends.{AmongAsked}
use Rattle.fd_outcome.specs.Noticing.{ReadsFitly}
use Rattle.fd_outcome.specs.Objects.{object}
use Rattle.fd_stored.specs.Store.{IsLookedThrough}
use Rattle.fd_outcome.proofs.Exits.{never_whole}
use Rattle.fd_telling.proofs.StopLemmas.{later_disk}
use Rattle.fd_telling.specs.Stops.{IsRefused}
use Rattle.fd_retrieve.specs.Ready.{AreFirmOf}
use Rattle.fd_retrieve.specs.Tables.{datasets_in}
use Rattle.fd_retrieve.proofs.Firmly.{plain_firm}
use Rattle.fd_retrieve.proofs.Plain.{plain_notices, plain_refuses, plain_told}
use Rattle.fd_retrieve.proofs.StopExits.{stop_not_whole, stopped}
use Rattle.fd_retrieve.proofs.retrieving.retrieve.Goals as goal

pub returns-in-Ok-clause-ran : goal.returns-in-Ok-clause-ran
returns-in-Ok-clause-ran g c =
    c.answered.ensures.ran c.args.root.now (g.W.Store.Store.has c.args.objects.now.store) (g.W.Store.Store.faults c.args.objects.now.store) (g.W.Input.Source.left c.args.objects.now.input) (g.W.Input.Source.faults c.args.objects.now.input)
    (record {
      ready = plain_told c.args.root.now c.args.workers (g.W.Store.Store.has c.args.objects.now.store) (g.W.Input.Source.left c.args.objects.now.input) c.in-Ok.ready.request c.in-Ok.ready.places.items c.in-Ok.ready.opened.items c.in-Ok.ensures.count c.in-Ok.ensures.prepared;
      looks = c.in-Ok.ensures.looks;
      later = c.in-Ok.ensures.later;
      calm = c.in-Ok.ensures.cause.calm;
      read = c.in-Ok.ensures.read;
    })

pub returns-in-Err-clause-ran : goal.returns-in-Err-clause-ran
returns-in-Err-clause-ran g c =
    stopped c.args.root.now None c.args.workers (λ h octets. IsRefused (asked_of h octets)) (λ h octets. AmongAsked (asked_of h octets)) (plain_refuses c.args.root.now c.args.workers) (λ h names octets name among. among) (g.W.Store.Store.has c.args.objects.now.store) (g.W.Store.Store.has c.tell_stop.new.store) (g.W.Store.Store.faults c.args.objects.now.store) (g.W.Store.Store.faults c.tell_stop.new.store)
    (object (g.W.Input.Source.left c.args.objects.now.input) (g.W.Input.Source.left c.prepared.new.input) (g.W.Input.Source.faults c.args.objects.now.input) (g.W.Input.Source.faults c.prepared.new.input)) (g.W.Output.Sink.taken c.args.objects.now.output) (g.W.Output.Sink.faults c.args.objects.now.output)
    (object (g.W.Report.Sink.taken c.args.objects.now.report) (g.W.Report.Sink.taken c.tell_stop.new.report) (g.W.Report.Sink.faults c.args.objects.now.report) (g.W.Report.Sink.faults c.tell_stop.new.report)) c.tell_stop.result
    (subst (λ o. WhereTold (g.W.Store.Store.has c.args.objects.now.store) o IsLookedThrough) (sym c.tell_stop.ensures.has) c.in-Err.ensures.looks) c.in-Err.stop c.tell_stop.ensures.told c.in-Err.ensures.says c.in-Err.ensures.cause.input
    (later_disk c.in-Err.stop (g.W.Store.Store.faults c.args.objects.now.store) (g.W.Store.Store.faults c.prepared.new.store) (g.W.Store.Store.faults c.tell_stop.new.store) c.in-Err.ensures.later c.tell_stop.ensures.noted) c.in-Err.ensures.cause.calm_err

pub returns-in-Ok-clause-notices : goal.returns-in-Ok-clause-notices
returns-in-Ok-clause-notices g c =
    plain_notices c.args.root.now c.args.workers c.answered.result (object (g.W.Store.Store.has c.args.objects.now.store) (g.W.Store.Store.has c.answered.new.objects.store) (g.W.Store.Store.faults c.args.objects.now.store) (g.W.Store.Store.faults c.answered.new.objects.store))
    (object (g.W.Input.Source.left c.args.objects.now.input) (g.W.Input.Source.left c.answered.new.objects.input) (g.W.Input.Source.faults c.args.objects.now.input) (g.W.Input.Source.faults c.answered.new.objects.input))
    (object (g.W.Output.Sink.taken c.args.objects.now.output) (g.W.Output.Sink.taken c.answered.new.objects.output) (g.W.Output.Sink.faults c.args.objects.now.output) (g.W.Output.Sink.faults c.answered.new.objects.output))
    (object (g.W.Report.Sink.taken c.args.objects.now.report) (g.W.Report.Sink.taken c.answered.new.objects.report) (g.W.Report.Sink.faults c.args.objects.now.report) (g.W.Report.Sink.faults c.answered.new.objects.report))
    c.in-Ok.ready.request c.in-Ok.ready.places.items c.in-Ok.ready.opened.items c.in-Ok.ensures.count c.in-Ok.ensures.prepared c.answered.ensures.each

pub returns-in-Err-clause-notices : goal.returns-in-Err-clause-notices
returns-in-Err-clause-notices g c = λ whole. never_whole _ c.tell_stop.result (stop_not_whole c.in-Err.stop c.tell_stop.result _ _ _ _ c.tell_stop.ensures.told) whole

pub returns-in-Ok-clause-firm : goal.returns-in-Ok-clause-firm
returns-in-Ok-clause-firm g c =
    plain_firm c.args.root.now c.args.workers c.answered.result (object (g.W.Store.Store.has c.args.objects.now.store) (g.W.Store.Store.has c.answered.new.objects.store) (g.W.Store.Store.faults c.args.objects.now.store) (g.W.Store.Store.faults c.answered.new.objects.store))
    (object (g.W.Input.Source.left c.args.objects.now.input) (g.W.Input.Source.left c.answered.new.objects.input) (g.W.Input.Source.faults c.args.objects.now.input) (g.W.Input.Source.faults c.answered.new.objects.input))
    c.in-Ok.ready.request c.in-Ok.ready.places.items c.in-Ok.ready.opened.items c.in-Ok.ensures.count c.in-Ok.ensures.prepared
    (subst (λ o. IfSome o (λ i. AreFirmOf i (datasets_in c.in-Ok.ready.places.items))) (sym c.answered.ensures.has) c.in-Ok.ensures.firm)

pub returns-in-Err-clause-firm : goal.returns-in-Err-clause-firm
returns-in-Err-clause-firm g c = λ whole. never_whole _ c.tell_stop.result (stop_not_whole c.in-Err.stop c.tell_stop.result _ _ _ _ c.tell_stop.ensures.told) whole

pub returns-in-Ok-clause-unread : goal.returns-in-Ok-clause-unread
returns-in-Ok-clause-unread g c =
    let has = g.W.Store.Store.has c.args.objects.now.store in
    subst (λ i. ReadsFitly (Retrieve c.args.root.now c.args.workers) (object has has 0 0) (object (g.W.Input.Source.left c.args.objects.now.input) (g.W.Input.Source.left i) (g.W.Input.Source.faults c.args.objects.now.input) (g.W.Input.Source.faults i))) (sym c.answered.ensures.input) c.in-Ok.ensures.unread
