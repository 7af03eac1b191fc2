use Rattle.std.proofs.Common.{◌≡◌, inl, None, [], refl, sym, subst, List, ℕ, Some}
use Rattle.fd_disk.specs.Folders.{WhereTold}
use Rattle.fd_words.specs.declared.command.Command.TheVariants as commands
use Rattle.fd_outcome.specs.Objects.{object}
use Rattle.fd_outcome.specs.Outcome.{outcome, refused}
use Rattle.fd_stored.specs.Store.{IsLookedThrough}
use Rattle.fd_retrieve.proofs.Looking.{looked_unmoved}
use Rattle.fd_telling.proofs.StopLemmas.{later_disk}
use Rattle.fd_contents.specs.Asked.{IsRuled, Refuses, unruled}
use Rattle.fd_contents.proofs.Exits.{calm_always, never_input, stats_opens, stats_prints, stats_refused, stopped, store_at}
use Rattle.fd_contents.proofs.Firmly.{stats_firm}
use Rattle.fd_contents.proofs.Noticed.{stats_notices, stats_records}
use Rattle.fd_contents.proofs.Whole.{stop_whole}
use Rattle.fd_contents.proofs.Partial.{refuses_more}
use Rattle.fd_contents.proofs.commands.stats.Goals as goal

pub returns-in-Ok-clause-ran : goal.returns-in-Ok-clause-ran
returns-in-Ok-clause-ran g c =
    c.printed.ensures.ran (commands.Stats c.args.root.now) (g.W.Store.Store.has c.args.objects.now.store) (g.W.Store.Store.faults c.args.objects.now.store) (g.W.Input.Source.left c.args.objects.now.input) (g.W.Input.Source.faults c.args.objects.now.input)
    (record {
      is_listing = tt;
      prints = λ h e names. let ruled = store_at (g.W.Store.Store.has c.args.objects.now.store) (λ h. IsRuled h.schema) c.in-Ok.ensures.ok h e in stats_prints c.args.root.now [] h ruled.0 ruled.1 names;
      opens = λ h e names name there. let ruled = store_at (g.W.Store.Store.has c.args.objects.now.store) (λ h. IsRuled h.schema) c.in-Ok.ensures.ok h e in stats_opens c.args.root.now [] h ruled.0 ruled.1 names name there;
      same = c.in-Ok.ensures.has;
      later = c.in-Ok.ensures.later;
      calm = refl;
      read = refl;
    })

pub returns-in-Err-clause-ran : goal.returns-in-Err-clause-ran
returns-in-Err-clause-ran g c =
    stopped (commands.Stats c.args.root.now) tt (g.W.Store.Store.has c.args.objects.now.store) (g.W.Store.Store.has c.tell_stop.new.store) (g.W.Store.Store.faults c.args.objects.now.store) (g.W.Store.Store.faults c.tell_stop.new.store)
    (object (g.W.Input.Source.left c.args.objects.now.input) (g.W.Input.Source.left c.args.objects.now.input) (g.W.Input.Source.faults c.args.objects.now.input) (g.W.Input.Source.faults c.args.objects.now.input)) (g.W.Output.Sink.taken c.args.objects.now.output) (g.W.Output.Sink.faults c.args.objects.now.output)
    (object (g.W.Report.Sink.taken c.args.objects.now.report) (g.W.Report.Sink.taken c.tell_stop.new.report) (g.W.Report.Sink.faults c.args.objects.now.report) (g.W.Report.Sink.faults c.tell_stop.new.report)) c.tell_stop.result
    (subst (λ o. WhereTold (g.W.Store.Store.has c.args.objects.now.store) o IsLookedThrough) (sym c.tell_stop.ensures.has) (looked_unmoved (g.W.Store.Store.has c.args.objects.now.store) (g.W.Store.Store.has c.ruled.new.store) c.in-Err.ensures.has))
    c.in-Err.stop c.tell_stop.ensures.told c.in-Err.ensures.early
    (λ octets h d e. refuses_more c.in-Err.stop (unruled h.schema) (λ cause. (names : List (List ℕ)) → outcome (commands.Stats c.args.root.now) h names octets ≡ Some (refused cause)) (stats_refused c.args.root.now octets h)
    (store_at (g.W.Store.Store.has c.args.objects.now.store) (λ h. Refuses c.in-Err.stop (unruled h.schema)) c.in-Err.ensures.refused h e))
    (never_input c.in-Err.stop _ c.in-Err.ensures.input) (later_disk c.in-Err.stop (g.W.Store.Store.faults c.args.objects.now.store) (g.W.Store.Store.faults c.ruled.new.store) (g.W.Store.Store.faults c.tell_stop.new.store) c.in-Err.ensures.later c.tell_stop.ensures.noted) (calm_always c.in-Err.stop _ refl)

pub returns-in-Ok-clause-notices : goal.returns-in-Ok-clause-notices
returns-in-Ok-clause-notices g c =
    stats_notices (g.W.Store.Store.has c.args.objects.now.store) (g.W.Store.Store.has c.ruled.new.store) (g.W.Store.Store.has c.printed.new.objects.store) (g.W.Store.Store.faults c.args.objects.now.store) (g.W.Store.Store.faults c.printed.new.objects.store) (object (g.W.Input.Source.left c.args.objects.now.input) (g.W.Input.Source.left c.printed.new.objects.input) (g.W.Input.Source.faults c.args.objects.now.input) (g.W.Input.Source.faults c.printed.new.objects.input))
    (object (g.W.Output.Sink.taken c.args.objects.now.output) (g.W.Output.Sink.taken c.printed.new.objects.output) (g.W.Output.Sink.faults c.args.objects.now.output) (g.W.Output.Sink.faults c.printed.new.objects.output))
    (object (g.W.Report.Sink.taken c.args.objects.now.report) (g.W.Report.Sink.taken c.printed.new.objects.report) (g.W.Report.Sink.faults c.args.objects.now.report) (g.W.Report.Sink.faults c.printed.new.objects.report)) c.printed.result
    c.in-Ok.ensures.has c.args.root.now c.printed.ensures.whole

pub returns-in-Err-clause-notices : goal.returns-in-Err-clause-notices
returns-in-Err-clause-notices g c = λ whole. stop_whole _ c.tell_stop.result (g.W.Report.Sink.taken c.args.objects.now.report) (g.W.Report.Sink.taken c.tell_stop.new.report) (g.W.Report.Sink.faults c.args.objects.now.report) (g.W.Report.Sink.faults c.tell_stop.new.report) c.in-Err.stop c.tell_stop.ensures.told whole

pub returns-in-Ok-clause-recorded : goal.returns-in-Ok-clause-recorded
returns-in-Ok-clause-recorded g c =
    stats_records (g.W.Store.Store.has c.args.objects.now.store) (g.W.Store.Store.has c.ruled.new.store) (g.W.Store.Store.has c.printed.new.objects.store) (g.W.Store.Store.faults c.args.objects.now.store) (g.W.Store.Store.faults c.printed.new.objects.store) (object None None 0 0)
    (object (g.W.Output.Sink.taken c.args.objects.now.output) (g.W.Output.Sink.taken c.printed.new.objects.output) (g.W.Output.Sink.faults c.args.objects.now.output) (g.W.Output.Sink.faults c.printed.new.objects.output))
    (object (g.W.Report.Sink.taken c.args.objects.now.report) (g.W.Report.Sink.taken c.printed.new.objects.report) (g.W.Report.Sink.faults c.args.objects.now.report) (g.W.Report.Sink.faults c.printed.new.objects.report)) c.printed.result
    c.in-Ok.ensures.has c.printed.ensures.whole

pub returns-in-Err-clause-recorded : goal.returns-in-Err-clause-recorded
returns-in-Err-clause-recorded g c = λ done. stop_whole _ c.tell_stop.result (g.W.Report.Sink.taken c.args.objects.now.report) (g.W.Report.Sink.taken c.tell_stop.new.report) (g.W.Report.Sink.faults c.args.objects.now.report) (g.W.Report.Sink.faults c.tell_stop.new.report) c.in-Err.stop c.tell_stop.ensures.told (inl done)

pub returns-in-Ok-clause-firm : goal.returns-in-Ok-clause-firm
returns-in-Ok-clause-firm g c =
    stats_firm c.args.root.now c.printed.result (object (g.W.Store.Store.has c.args.objects.now.store) (g.W.Store.Store.has c.printed.new.objects.store) (g.W.Store.Store.faults c.args.objects.now.store) (g.W.Store.Store.faults c.printed.new.objects.store))
    (g.W.Store.Store.has c.ruled.new.store) c.in-Ok.ensures.has c.printed.ensures.firm (object (g.W.Input.Source.left c.args.objects.now.input) (g.W.Input.Source.left c.printed.new.objects.input) (g.W.Input.Source.faults c.args.objects.now.input) (g.W.Input.Source.faults c.printed.new.objects.input))

pub returns-in-Err-clause-firm : goal.returns-in-Err-clause-firm
returns-in-Err-clause-firm g c = λ whole. stop_whole _ c.tell_stop.result (g.W.Report.Sink.taken c.args.objects.now.report) (g.W.Report.Sink.taken c.tell_stop.new.report) (g.W.Report.Sink.faults c.args.objects.now.report) (g.W.Report.Sink.faults c.tell_stop.new.report) c.in-Err.stop c.tell_stop.ensures.told whole
