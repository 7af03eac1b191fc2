use Rattle.std.proofs.Common.{refl, sym, subst, List, ℕ}
use Rattle.fd_disk.specs.Folders.{WhereTold}
use Rattle.fd_outcome.specs.Objects.{object}
use Rattle.fd_stored.specs.Store.{AreNames, IsLookedThrough}
use Rattle.fd_stored.specs.declared.status.Status.TheVariants.{OutputFault}
use Rattle.fd_outcome.specs.Ends.{output_failed}
use Rattle.fd_retrieve.specs.Ready.{IsBrokenOf}
use Rattle.fd_telling.proofs.StopLemmas.{later_disk}
use Rattle.fd_contents.proofs.Exits.{done_ran, halted, later_both, lines_part, looks_since, told_since, unwritten_ran, whole_lines}
use Rattle.fd_contents.proofs.Printing.{took_all}
use Rattle.fd_contents.proofs.Whole.{stop_whole, told_whole}
use Rattle.fd_contents.proofs.commands.printed.Goals as goal

pub returns-in-Ok-clause-ran : goal.returns-in-Ok-clause-ran
returns-in-Ok-clause-ran g c = λ command before faults left reads begins.
    let input = object left (g.W.Input.Source.left c.args.objects.now.input) reads (g.W.Input.Source.faults c.args.objects.now.input) in
    done_ran command begins.is_listing before (g.W.Store.Store.has c.print.new.store) faults (g.W.Store.Store.faults c.print.new.store) input
    (object (g.W.Output.Sink.taken c.args.objects.now.output) (g.W.Output.Sink.taken c.print.new.output) (g.W.Output.Sink.faults c.args.objects.now.output) (g.W.Output.Sink.faults c.print.new.output))
    (object (g.W.Report.Sink.taken c.args.objects.now.report) (g.W.Report.Sink.taken c.args.objects.now.report) (g.W.Report.Sink.faults c.args.objects.now.report) (g.W.Report.Sink.faults c.args.objects.now.report)) _
    (looks_since before (g.W.Store.Store.has c.args.objects.now.store) (g.W.Store.Store.has c.print.new.store) begins.same c.print.ensures.looks) refl refl begins.calm c.in-Ok.ensures.cause.calm begins.read
    (λ octets h names d e an. whole_lines command before input.before c.args.lines.now (g.W.Store.Store.has c.args.objects.now.store) (g.W.Output.Sink.taken c.args.objects.now.output) (g.W.Output.Sink.taken c.print.new.output) begins.prints begins.same
    (took_all c.args.lines.now (g.W.Store.Store.has c.args.objects.now.store) (g.W.Output.Sink.taken c.args.objects.now.output) (g.W.Output.Sink.taken c.print.new.output) c.in-Ok.ensures.printed) octets h names d e an)

pub returns-in-Err-Unwritten-clause-ran : goal.returns-in-Err-Unwritten-clause-ran
returns-in-Err-Unwritten-clause-ran g c = λ command before faults left reads begins.
    let input = object left (g.W.Input.Source.left c.args.objects.now.input) reads (g.W.Input.Source.faults c.args.objects.now.input) in
    unwritten_ran command begins.is_listing before (g.W.Store.Store.has c.print.new.store) faults (g.W.Store.Store.faults c.print.new.store) input
    (object (g.W.Output.Sink.taken c.args.objects.now.output) (g.W.Output.Sink.taken c.print.new.output) (g.W.Output.Sink.faults c.args.objects.now.output) (g.W.Output.Sink.faults c.print.new.output))
    (object (g.W.Report.Sink.taken c.args.objects.now.report) (g.W.Report.Sink.taken c.tell_output_failed.new.report) (g.W.Report.Sink.faults c.args.objects.now.report) (g.W.Report.Sink.faults c.tell_output_failed.new.report)) c.tell_output_failed.result
    (looks_since before (g.W.Store.Store.has c.args.objects.now.store) (g.W.Store.Store.has c.print.new.store) begins.same c.print.ensures.looks) c.tell_output_failed.ensures (rw c.in-Err-Unwritten.field-0-is at c.in-Err-Unwritten.ensures.cause.write)
    (λ octets h names d e an. lines_part command before input.before c.args.lines.now (g.W.Store.Store.has c.args.objects.now.store) (g.W.Output.Sink.taken c.args.objects.now.output) (g.W.Output.Sink.taken c.print.new.output) begins.prints begins.same c.in-Err-Unwritten.ensures.front octets h names d e an)

pub returns-clause-ran : goal.returns-clause-ran
returns-clause-ran g c = λ command before faults left reads begins.
    let input = object left (g.W.Input.Source.left c.args.objects.now.input) reads (g.W.Input.Source.faults c.args.objects.now.input) in
    halted command begins.is_listing before (g.W.Store.Store.has c.tell_stop.new.store) faults (g.W.Store.Store.faults c.tell_stop.new.store) input
    (object (g.W.Output.Sink.taken c.args.objects.now.output) (g.W.Output.Sink.taken c.print.new.output) (g.W.Output.Sink.faults c.args.objects.now.output) (g.W.Output.Sink.faults c.print.new.output))
    (object (g.W.Report.Sink.taken c.args.objects.now.report) (g.W.Report.Sink.taken c.tell_stop.new.report) (g.W.Report.Sink.faults c.args.objects.now.report) (g.W.Report.Sink.faults c.tell_stop.new.report)) c.tell_stop.result
    (subst (λ o. WhereTold before o IsLookedThrough) (sym c.tell_stop.ensures.has) (looks_since before (g.W.Store.Store.has c.args.objects.now.store) (g.W.Store.Store.has c.print.new.store) begins.same c.print.ensures.looks))
    c.in-Err-Stop.stop c.tell_stop.ensures.told (rw c.in-Err-Stop.field-0-is at c.in-Err-Stop.ensures.cause.of)
    (told_since before (g.W.Store.Store.has c.args.objects.now.store) (λ h. (names : List (List ℕ)) → AreNames h names → IsBrokenOf c.in-Err-Stop.stop h names) begins.same (rw c.in-Err-Stop.field-0-is at c.in-Err-Stop.ensures.broken))
    (later_disk c.in-Err-Stop.stop faults (g.W.Store.Store.faults c.print.new.store) (g.W.Store.Store.faults c.tell_stop.new.store) (later_both faults (g.W.Store.Store.faults c.args.objects.now.store) (g.W.Store.Store.faults c.print.new.store) begins.later c.print.ensures.later) c.tell_stop.ensures.noted)
    (λ octets h names d e an. lines_part command before input.before c.args.lines.now (g.W.Store.Store.has c.args.objects.now.store) (g.W.Output.Sink.taken c.args.objects.now.output) (g.W.Output.Sink.taken c.print.new.output) begins.prints begins.same c.in-Err-Stop.ensures.front octets h names d e an)
    begins.opens

pub returns-in-Ok-clause-whole : goal.returns-in-Ok-clause-whole
returns-in-Ok-clause-whole g c = λ whole. record { done = refl; quiet = refl; each = c.in-Ok.ensures.printed }

pub returns-in-Err-Unwritten-clause-whole : goal.returns-in-Err-Unwritten-clause-whole
returns-in-Err-Unwritten-clause-whole g c = λ whole.
    told_whole _ c.tell_output_failed.result (g.W.Report.Sink.taken c.args.objects.now.report) (g.W.Report.Sink.taken c.tell_output_failed.new.report) (g.W.Report.Sink.faults c.args.objects.now.report) (g.W.Report.Sink.faults c.tell_output_failed.new.report)
    OutputFault output_failed refl c.tell_output_failed.ensures whole

pub returns-clause-whole : goal.returns-clause-whole
returns-clause-whole g c = λ whole. stop_whole _ c.tell_stop.result (g.W.Report.Sink.taken c.args.objects.now.report) (g.W.Report.Sink.taken c.tell_stop.new.report) (g.W.Report.Sink.faults c.args.objects.now.report) (g.W.Report.Sink.faults c.tell_stop.new.report) c.in-Err-Stop.stop c.tell_stop.ensures.told whole

pub returns-in-Ok-clause-firm : goal.returns-in-Ok-clause-firm
returns-in-Ok-clause-firm g c = λ whole. c.in-Ok.ensures.firm

pub returns-in-Err-Unwritten-clause-firm : goal.returns-in-Err-Unwritten-clause-firm
returns-in-Err-Unwritten-clause-firm g c = λ whole.
    told_whole _ c.tell_output_failed.result (g.W.Report.Sink.taken c.args.objects.now.report) (g.W.Report.Sink.taken c.tell_output_failed.new.report) (g.W.Report.Sink.faults c.args.objects.now.report) (g.W.Report.Sink.faults c.tell_output_failed.new.report)
    OutputFault output_failed refl c.tell_output_failed.ensures whole

pub returns-clause-firm : goal.returns-clause-firm
returns-clause-firm g c = λ whole. stop_whole _ c.tell_stop.result (g.W.Report.Sink.taken c.args.objects.now.report) (g.W.Report.Sink.taken c.tell_stop.new.report) (g.W.Report.Sink.faults c.args.objects.now.report) (g.W.Report.Sink.faults c.tell_stop.new.report) c.in-Err-Stop.stop c.tell_stop.ensures.told whole
