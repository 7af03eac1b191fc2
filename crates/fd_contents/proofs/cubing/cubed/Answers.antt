use Rattle.std.proofs.Common.{refl, sym, subst, List, ℕ}
use Rattle.fd_disk.specs.Folders.{WhereTold}
use Rattle.fd_outcome.specs.Objects.{object}
use Rattle.fd_stored.specs.Store.{AreNames, IsLookedThrough}
use Rattle.fd_retrieve.specs.Ready.{IsBrokenOf, NoneIsDamaged}
use Rattle.fd_telling.proofs.StopLemmas.{later_disk}
use Rattle.fd_contents.specs.Gathering.{FindsAll}
use Rattle.fd_contents.proofs.CubeExits.{halted_ran, keys_ran}
use Rattle.fd_contents.proofs.Exits.{later_both, looks_since, told_since}
use Rattle.fd_contents.proofs.cubing.cubed.Goals as goal

pub returns-in-Ok-clause-ran : goal.returns-in-Ok-clause-ran
returns-in-Ok-clause-ran g c = λ root before faults left reads begins.
    let input = object left (g.W.Input.Source.left c.args.objects.now.input) reads (g.W.Input.Source.faults c.args.objects.now.input) in
    keys_ran root before (g.W.Store.Store.has c.keys_asked.new.store) faults (g.W.Store.Store.faults c.keys_asked.new.store) input
    (object (g.W.Output.Sink.taken c.args.objects.now.output) (g.W.Output.Sink.taken c.tell_keys.new.output) (g.W.Output.Sink.faults c.args.objects.now.output) (g.W.Output.Sink.faults c.tell_keys.new.output))
    (object (g.W.Report.Sink.taken c.args.objects.now.report) (g.W.Report.Sink.taken c.tell_keys.new.report) (g.W.Report.Sink.faults c.args.objects.now.report) (g.W.Report.Sink.faults c.tell_keys.new.report)) c.tell_keys.result
    (looks_since before (g.W.Store.Store.has c.args.objects.now.store) (g.W.Store.Store.has c.keys_asked.new.store) begins.same c.keys_asked.ensures.looks) begins.unread
    c.args.partial.now c.in-Ok.found begins.asked begins.calm begins.read
    (told_since before (g.W.Store.Store.has c.args.objects.now.store) (λ h. (names : List (List ℕ)) → AreNames h names → NoneIsDamaged h names) begins.same c.in-Ok.ensures.undamaged)
    (told_since before (g.W.Store.Store.has c.args.objects.now.store) (λ h. (names : List (List ℕ)) → AreNames h names → FindsAll c.args.partial.now h names c.in-Ok.found) begins.same c.in-Ok.ensures.found)
    c.tell_keys.ensures

pub returns-in-Err-clause-ran : goal.returns-in-Err-clause-ran
returns-in-Err-clause-ran g c = λ root before faults left reads begins.
    let input = object left (g.W.Input.Source.left c.args.objects.now.input) reads (g.W.Input.Source.faults c.args.objects.now.input) in
    halted_ran root before (g.W.Store.Store.has c.tell_stop.new.store) faults (g.W.Store.Store.faults c.tell_stop.new.store) input
    (object (g.W.Output.Sink.taken c.args.objects.now.output) (g.W.Output.Sink.taken c.args.objects.now.output) (g.W.Output.Sink.faults c.args.objects.now.output) (g.W.Output.Sink.faults c.args.objects.now.output))
    (object (g.W.Report.Sink.taken c.args.objects.now.report) (g.W.Report.Sink.taken c.tell_stop.new.report) (g.W.Report.Sink.faults c.args.objects.now.report) (g.W.Report.Sink.faults c.tell_stop.new.report)) c.tell_stop.result
    (subst (λ o. WhereTold before o IsLookedThrough) (sym c.tell_stop.ensures.has) (looks_since before (g.W.Store.Store.has c.args.objects.now.store) (g.W.Store.Store.has c.keys_asked.new.store) begins.same c.keys_asked.ensures.looks)) begins.unread refl
    c.args.partial.now begins.asked c.in-Err.stop c.tell_stop.ensures.told c.in-Err.ensures.of
    (told_since before (g.W.Store.Store.has c.args.objects.now.store) (λ h. (names : List (List ℕ)) → AreNames h names → IsBrokenOf c.in-Err.stop h names) begins.same c.in-Err.ensures.broken)
    (later_disk c.in-Err.stop faults (g.W.Store.Store.faults c.keys_asked.new.store) (g.W.Store.Store.faults c.tell_stop.new.store) (later_both faults (g.W.Store.Store.faults c.args.objects.now.store) (g.W.Store.Store.faults c.keys_asked.new.store) begins.later c.keys_asked.ensures.later) c.tell_stop.ensures.noted)
