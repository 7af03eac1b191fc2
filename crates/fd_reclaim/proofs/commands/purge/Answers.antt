use Rattle.std.proofs.Common.{◌≡◌, sym, subst}
use Rattle.fd_disk.specs.Folders.{WhereTold, folder_at}
use Rattle.fd_words.specs.declared.command.Command.TheVariants as commands
use Rattle.fd_outcome.specs.Asking.{rules_of}
use Rattle.fd_outcome.specs.Objects.{object}
use Rattle.fd_outcome.specs.Outcome.{reclaimed}
use Rattle.fd_outcome.specs.Ran.{Ran}
use Rattle.fd_outcome.specs.Reclaiming.{InDataset, PurgeDone, PurgeUnderWay, purge_told, purged_line}
use Rattle.fd_reclaim.specs.Halts.{LeavesHalted}
use Rattle.fd_reclaim.proofs.Exits.{ended, halted, later_disk, purge_acts}
use Rattle.fd_reclaim.proofs.commands.purge.Goals as goal

pub returns-in-Ok-clause-ran : goal.returns-in-Ok-clause-ran
returns-in-Ok-clause-ran g c =
    let i = g.W.Input.Source.left c.args.objects.now.input in
    let j = g.W.Input.Source.faults c.args.objects.now.input in
    let a = g.W.Output.Sink.taken c.args.objects.now.output in
    let k = g.W.Output.Sink.faults c.args.objects.now.output in
    let text = c.as_str-text.result.now in
    let before = g.W.Store.Store.has c.args.objects.now.store in
    let now = g.W.Store.Store.has c.purged.new.store in
    let m = g.W.Store.Store.faults c.args.objects.now.store in
    let n = g.W.Store.Store.faults c.purged.new.store in
    let report = object (g.W.Report.Sink.taken c.args.objects.now.report) (g.W.Report.Sink.taken c.tell_purged.new.report) (g.W.Report.Sink.faults c.args.objects.now.report) (g.W.Report.Sink.faults c.tell_purged.new.report) in
    subst (λ d. Ran (commands.Purge c.args.root.now d) c.tell_purged.result (object before now m n) (object i i j j) (object a a k k) report) c.as_str-text.ensures
    (ended (commands.Purge c.args.root.now text) text (λ h. reclaimed (rules_of h.schema) (purge_told text (folder_at h text))) (PurgeDone text) (PurgeUnderWay text) (purge_acts c.args.root.now text) before now m n i j a k report c.tell_purged.result
    (purged_line c.in-Ok.purged.dropped c.in-Ok.purged.kept) c.in-Ok.ensures.ok c.in-Ok.ensures.done c.tell_purged.ensures)

pub returns-in-Err-clause-ran : goal.returns-in-Err-clause-ran
returns-in-Err-clause-ran g c =
    let i = g.W.Input.Source.left c.args.objects.now.input in
    let j = g.W.Input.Source.faults c.args.objects.now.input in
    let a = g.W.Output.Sink.taken c.args.objects.now.output in
    let k = g.W.Output.Sink.faults c.args.objects.now.output in
    let text = c.as_str-text.result.now in
    let before = g.W.Store.Store.has c.args.objects.now.store in
    let mid = g.W.Store.Store.has c.purged.new.store in
    let now = g.W.Store.Store.has c.tell_halt.new.store in
    let m = g.W.Store.Store.faults c.args.objects.now.store in
    let n = g.W.Store.Store.faults c.tell_halt.new.store in
    let report = object (g.W.Report.Sink.taken c.args.objects.now.report) (g.W.Report.Sink.taken c.tell_halt.new.report) (g.W.Report.Sink.faults c.args.objects.now.report) (g.W.Report.Sink.faults c.tell_halt.new.report) in
    subst (λ d. Ran (commands.Purge c.args.root.now d) c.tell_halt.result (object before now m n) (object i i j j) (object a a k k) report) c.as_str-text.ensures
    (halted (commands.Purge c.args.root.now text) text (λ h. reclaimed (rules_of h.schema) (purge_told text (folder_at h text))) (PurgeDone text) (PurgeUnderWay text) (purge_acts c.args.root.now text) before now m n i j a k report c.tell_halt.result
    c.in-Err.halt c.tell_halt.ensures.told c.in-Err.ensures.refused
    (subst (λ o. WhereTold before o (InDataset text (LeavesHalted c.in-Err.halt (PurgeUnderWay text)))) (sym c.tell_halt.ensures.has) c.in-Err.ensures.left)
    (later_disk c.in-Err.halt m (g.W.Store.Store.faults c.purged.new.store) n c.in-Err.ensures.later c.tell_halt.ensures.noted))
