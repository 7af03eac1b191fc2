use Rattle.std.proofs.Common.{◌≡◌, refl, sym, subst, Err}
use Rattle.fd_disk.specs.Folders.{WhereTold}
use Rattle.fd_outcome.specs.Objects.{object}
use Rattle.fd_stored.specs.Store.{IsLookedThrough}
use Rattle.fd_retrieve.proofs.Looking.{looked_unmoved}
use Rattle.fd_telling.proofs.StopLemmas.{later_disk}
use Rattle.fd_contents.specs.Asked.{Refuses, asked_in}
use Rattle.fd_contents.proofs.CubeExits.{stopped_ran}
use Rattle.fd_contents.proofs.Exits.{both_at}
use Rattle.fd_contents.proofs.cubing.cubes.Goals as goal

pub returns-in-Ok-clause-ran : goal.returns-in-Ok-clause-ran
returns-in-Ok-clause-ran g c =
    c.cubed.ensures.ran c.args.root.now (g.W.Store.Store.has c.args.objects.now.store) (g.W.Store.Store.faults c.args.objects.now.store)
    (g.W.Input.Source.left c.args.objects.now.input) (g.W.Input.Source.faults c.args.objects.now.input)
    (record {
      asked = c.in-Ok.ensures.asked;
      same = c.in-Ok.ensures.has;
      later = c.in-Ok.ensures.later;
      calm = c.in-Ok.ensures.cause.calm;
      read = c.in-Ok.ensures.read;
      unread = c.in-Ok.ensures.unread;
    })

pub returns-in-Err-clause-ran : goal.returns-in-Err-clause-ran
returns-in-Err-clause-ran g c =
    stopped_ran c.args.root.now (g.W.Store.Store.has c.args.objects.now.store) (g.W.Store.Store.has c.tell_stop.new.store) (g.W.Store.Store.faults c.args.objects.now.store) (g.W.Store.Store.faults c.tell_stop.new.store)
    (object (g.W.Input.Source.left c.args.objects.now.input) (g.W.Input.Source.left c.partial.new.input) (g.W.Input.Source.faults c.args.objects.now.input) (g.W.Input.Source.faults c.partial.new.input))
    (object (g.W.Output.Sink.taken c.args.objects.now.output) (g.W.Output.Sink.taken c.args.objects.now.output) (g.W.Output.Sink.faults c.args.objects.now.output) (g.W.Output.Sink.faults c.args.objects.now.output))
    (object (g.W.Report.Sink.taken c.args.objects.now.report) (g.W.Report.Sink.taken c.tell_stop.new.report) (g.W.Report.Sink.faults c.args.objects.now.report) (g.W.Report.Sink.faults c.tell_stop.new.report)) c.tell_stop.result
    (subst (λ o. WhereTold (g.W.Store.Store.has c.args.objects.now.store) o IsLookedThrough) (sym c.tell_stop.ensures.has) (looked_unmoved (g.W.Store.Store.has c.args.objects.now.store) (g.W.Store.Store.has c.partial.new.store) c.in-Err.ensures.has)) c.in-Err.ensures.unread refl
    c.in-Err.stop c.tell_stop.ensures.told c.in-Err.ensures.early
    (λ octets h d e. both_at (g.W.Store.Store.has c.args.objects.now.store) (g.W.Input.Source.left c.args.objects.now.input) (λ octets h. Refuses c.in-Err.stop (λ cause. asked_in h octets ≡ Err cause)) c.in-Err.ensures.refused octets h d e)
    c.in-Err.ensures.cause.input (later_disk c.in-Err.stop (g.W.Store.Store.faults c.args.objects.now.store) (g.W.Store.Store.faults c.partial.new.store) (g.W.Store.Store.faults c.tell_stop.new.store) c.in-Err.ensures.later c.tell_stop.ensures.noted) c.in-Err.ensures.cause.calm_err refl
