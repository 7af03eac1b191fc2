use Rattle.std.proofs.Common.{◌≡◌, sym, subst, List, IfSome}
use Rattle.std.specs.Prelude.{◌⊎◌}
use Rattle.std.specs.Result.{IsErr}
use Rattle.fd_disk.specs.Folders.{WhereTold}
use Rattle.fd_stored.specs.declared.status.Status.TheVariants.{Done, Missed}
use Rattle.fd_outcome.specs.Asking.{rules_of}
use Rattle.fd_outcome.specs.Noticing.{IsUnread}
use Rattle.fd_outcome.specs.Objects.{object}
use Rattle.fd_stored.specs.Store.{IsLookedThrough}
use Rattle.fd_retrieve.proofs.Looking.{looked_unmoved}
use Rattle.fd_telling.proofs.StopLemmas.{later_disk}
use Rattle.fd_contents.specs.Asked.{Begins}
use Rattle.fd_contents.specs.Listing.{command_with}
use Rattle.fd_contents.specs.Printed.{PrintsAll}
use Rattle.fd_contents.proofs.Listed.{begins, lists_by, lists_none}
use Rattle.fd_contents.proofs.commands.listed.Goals as goal

pub returns-in-Ok-clause-lists : goal.returns-in-Ok-clause-lists
returns-in-Ok-clause-lists g c =
    let kind = c.args.kind in
    let root = c.args.root.now in
    let has = g.W.Store.Store.has c.args.objects.now.store in
    let mid = g.W.Store.Store.has c.partial.new.store in
    let m = g.W.Store.Store.faults c.args.objects.now.store in
    let left = g.W.Input.Source.left c.args.objects.now.input in
    let faults = g.W.Input.Source.faults c.args.objects.now.input in
    let read = object left (g.W.Input.Source.left c.partial.new.input) faults (g.W.Input.Source.faults c.partial.new.input) in
    let output = object (g.W.Output.Sink.taken c.args.objects.now.output) (g.W.Output.Sink.taken c.printed.new.objects.output) (g.W.Output.Sink.faults c.args.objects.now.output) (g.W.Output.Sink.faults c.printed.new.objects.output) in
    let report = object (g.W.Report.Sink.taken c.args.objects.now.report) (g.W.Report.Sink.taken c.printed.new.objects.report) (g.W.Report.Sink.faults c.args.objects.now.report) (g.W.Report.Sink.faults c.printed.new.objects.report) in
    let result = c.printed.result in
    lists_by kind root c.in-Ok.partial has mid (g.W.Store.Store.has c.printed.new.objects.store) m (g.W.Store.Store.faults c.printed.new.objects.store)
    (object left (g.W.Input.Source.left c.printed.new.objects.input) faults (g.W.Input.Source.faults c.printed.new.objects.input)) output report result c.in-Ok.ensures.has c.in-Ok.ensures.asked
    (subst (λ l. (result ≡ Done) ⊎ (result ≡ Missed) → PrintsAll l result mid output report) c.lines_with-lines.ensures c.printed.ensures.whole) c.printed.ensures.firm
    (subst (λ i. IfSome has (λ h. IsErr (rules_of h.schema) → IsUnread (object left (g.W.Input.Source.left i) faults (g.W.Input.Source.faults i)))) (sym c.printed.ensures.input) c.in-Ok.ensures.unread)
    (c.printed.ensures.ran (command_with kind root) has m left faults
    (subst (λ l. Begins (command_with kind root) l has mid m (g.W.Store.Store.faults c.partial.new.store) read) (sym c.lines_with-lines.ensures)
    (begins kind root c.in-Ok.partial has mid m (g.W.Store.Store.faults c.partial.new.store) read c.in-Ok.ensures.asked c.in-Ok.ensures.has c.in-Ok.ensures.later c.in-Ok.ensures.cause.calm c.in-Ok.ensures.read)))

pub returns-in-Err-clause-lists : goal.returns-in-Err-clause-lists
returns-in-Err-clause-lists g c =
    let has = g.W.Store.Store.has c.args.objects.now.store in
    let m = g.W.Store.Store.faults c.args.objects.now.store in
    let n = g.W.Store.Store.faults c.tell_stop.new.store in
    lists_none c.in-Err.stop c.args.root.now has (g.W.Store.Store.has c.tell_stop.new.store) m n
    (object (g.W.Input.Source.left c.args.objects.now.input) (g.W.Input.Source.left c.partial.new.input) (g.W.Input.Source.faults c.args.objects.now.input) (g.W.Input.Source.faults c.partial.new.input)) (g.W.Output.Sink.taken c.args.objects.now.output) (g.W.Output.Sink.faults c.args.objects.now.output)
    (object (g.W.Report.Sink.taken c.args.objects.now.report) (g.W.Report.Sink.taken c.tell_stop.new.report) (g.W.Report.Sink.faults c.args.objects.now.report) (g.W.Report.Sink.faults c.tell_stop.new.report)) c.tell_stop.result
    (subst (λ o. WhereTold has o IsLookedThrough) (sym c.tell_stop.ensures.has) (looked_unmoved has (g.W.Store.Store.has c.partial.new.store) c.in-Err.ensures.has))
    c.tell_stop.ensures.told c.in-Err.ensures.early c.in-Err.ensures.refused c.in-Err.ensures.cause.input
    (later_disk c.in-Err.stop m (g.W.Store.Store.faults c.partial.new.store) n c.in-Err.ensures.later c.tell_stop.ensures.noted) c.in-Err.ensures.cause.calm_err
    c.args.kind c.in-Err.ensures.unread
