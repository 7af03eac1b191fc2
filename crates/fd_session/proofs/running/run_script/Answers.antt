use Rattle.std.proofs.Common.{refl, subst}
use Rattle.fd_play.specs.Plays.{HoldsSame, IsUnopened, LeavesUnplayed}
use Rattle.std.specs.Prelude.{IfSome}
use Rattle.fd_outcome.specs.Objects.{object}
use Rattle.fd_session.proofs.Ending.{idle_ran, run_ran}
use Rattle.fd_session.proofs.Halting.{accepted, counted_since, kept_held, later_disk, played_since, told_since, unopened_halts}
use Rattle.fd_session.proofs.running.run_script.Goals as goal

pub returns-in-Ok-clause-ran : goal.returns-in-Ok-clause-ran
returns-in-Ok-clause-ran g c = λ before faults left reads begun.
    let input = object left (g.W.Input.Source.left c.args.objects.now.input) reads (g.W.Input.Source.faults c.args.objects.now.input) in
    let script = c.args.read.now.script in
    let messages = c.args.read.now.messages in
    run_ran _ _ _ input _ _ c.args.schema.now messages script c.in-Ok.transcript.before c.in-Ok.transcript.lanes c.tell_session-status.ensures
    (counted_since _ _ _ _ _ begun.later c.play.ensures.later c.note_all.ensures.counted) begun.calm begun.rules_are
    (accepted c.args.schema.now script messages input.before begun.read c.requires.done) begun.to_end
    (played_since c.args.schema.now messages script c.in-Ok.transcript.before c.in-Ok.transcript.lanes _ _ _ _ begun.same c.note_all.ensures.has (rw c.as_slice-messages.ensures at c.in-Ok.ensures.played))

pub returns-in-Err-clause-ran : goal.returns-in-Err-clause-ran
returns-in-Err-clause-ran g c = λ before faults left reads begun.
    let input = object left (g.W.Input.Source.left c.args.objects.now.input) reads (g.W.Input.Source.faults c.args.objects.now.input) in
    let script = c.args.read.now.script in
    idle_ran _ _ _ _ _ _ refl refl (kept_held _ input c.args.schema.now script c.args.read.now.messages (told_since HoldsSame _ _ _ _ begun.same c.tell_unopened.ensures.has c.in-Err.ensures.idle)
    (told_since (LeavesUnplayed script.dataset) _ _ _ _ begun.same c.tell_unopened.ensures.has c.in-Err.ensures.left) begun.rules_are
    (accepted c.args.schema.now script c.args.read.now.messages input.before begun.read c.requires.done))
    (unopened_halts _ _ input _ c.args.schema.now begun.rules_are begun.calm script c.args.read.now.messages begun.read c.requires.done c.in-Err.fault
    (subst (λ o. IfSome o (IsUnopened script.dataset c.in-Err.fault)) begun.same c.in-Err.ensures.refused) (rw c.dataset.ensures at c.tell_unopened.ensures.told)
    (later_disk c.in-Err.fault _ _ _ _ begun.later c.play.ensures.later c.tell_unopened.ensures.noted))
