use Rattle.std.proofs.Common.{◌≤◌, Some, Err, subst, arith}
use Rattle.fd_bytes.specs.Causes.{Rose}
use Rattle.fd_outcome.specs.Trying.{trial_given}
use Rattle.fd_telling.proofs.StopLemmas.{rose_later}
use Rattle.fd_archive.specs.Kept.{InputKept, WholeKept}
use Rattle.fd_trial.specs.Made.{made_left}
use Rattle.fd_outcome.proofs.Exits.{never_whole}
use Rattle.fd_trial.proofs.Noticing.{looked_spares, unstored_part, whole_undamaged}
use Rattle.fd_trial.proofs.Outlasting.{asked_outlasts, unstored_outlasts}
use Rattle.fd_trial.proofs.Stopping.{kept_ran, kept_whole, on_disk}
use Rattle.fd_trial.proofs.command.Plan.run.Goals as goal

pub ask-requires-clause-stored : goal.ask-requires-clause-stored
ask-requires-clause-stored g c κs within =
    let mid = g.W.Store.Store.has c.args.objects.now.store in
    let now = g.W.Store.Store.has c.store_all.new.store in
    let w = subst (λ o. WholeKept c.args.self.now.workers c.args.self.now.schema.now c.args.self.now.given.now (Some o) (Some (made_left c.store_all.new.input)) mid now c.in-Ok.field-0) c.new-messages.ensures.left c.in-Ok.ensures.stored in
    w.taken_is.refusal

pub returns-in-Ok-clause-ran : goal.returns-in-Ok-clause-ran
returns-in-Ok-clause-ran g c = λ root start faults le planted.
    let left = g.W.Input.Source.left c.args.objects.now.input in
    let l = g.W.Input.Source.faults c.args.objects.now.input in
    let a = g.W.Output.Sink.taken c.args.objects.now.output in
    let k = g.W.Output.Sink.faults c.args.objects.now.output in
    let mid = g.W.Store.Store.has c.args.objects.now.store in
    let now = g.W.Store.Store.has c.store_all.new.store in
    let later : faults ≤ g.W.Store.Store.faults c.store_all.new.store = omega (arith, le, c.store_all.ensures.causes.later) in
    let w = subst (λ o. WholeKept c.args.self.now.workers c.args.self.now.schema.now trial_given (Some o) (Some (made_left c.store_all.new.input)) mid now c.in-Ok.field-0) c.new-messages.ensures.left
    (subst (λ given. WholeKept c.args.self.now.workers c.args.self.now.schema.now given (Some (made_left c.new-messages.result)) (Some (made_left c.store_all.new.input)) mid now c.in-Ok.field-0) c.requires.given c.in-Ok.ensures.stored) in
    c.ask.ensures.ran root start faults later
    (kept_whole c.args.self.now.count c.args.self.now.workers c.args.self.now.schema.now start mid now c.in-Ok.field-0 (Some (made_left c.store_all.new.input)) planted w)

pub returns-clause-ran : goal.returns-clause-ran
returns-clause-ran g c = λ root start faults le planted.
    let left = g.W.Input.Source.left c.args.objects.now.input in
    let l = g.W.Input.Source.faults c.args.objects.now.input in
    let a = g.W.Output.Sink.taken c.args.objects.now.output in
    let k = g.W.Output.Sink.faults c.args.objects.now.output in
    let mid = g.W.Store.Store.has c.args.objects.now.store in
    let now = g.W.Store.Store.has c.store_all.new.store in
    let after = Some (made_left c.store_all.new.input) in
    let w = subst (λ o. InputKept c.args.self.now.workers c.args.self.now.schema.now trial_given (Some o) after mid now (Err c.in-Err.fault)) c.new-messages.ensures.left
    (subst (λ given. InputKept c.args.self.now.workers c.args.self.now.schema.now given (Some (made_left c.new-messages.result)) after mid now (Err c.in-Err.fault)) c.requires.given c.in-Err.ensures.stored) in
    kept_ran root c.args.self.now.count c.args.self.now.workers start mid now faults (g.W.Store.Store.faults c.store_all.new.store) left l a k _ c.tell_unstored.result c.args.self.now.schema.now c.in-Err.fault after planted w c.tell_unstored.ensures
    (on_disk c.in-Err.fault _ (Rose faults (g.W.Store.Store.faults c.store_all.new.store)) (rose_later faults (g.W.Store.Store.faults c.args.objects.now.store) (g.W.Store.Store.faults c.store_all.new.store) le) c.in-Err.ensures.causes.disk)

pub returns-in-Ok-clause-outlasts : goal.returns-in-Ok-clause-outlasts
returns-in-Ok-clause-outlasts g c =
    let mid = g.W.Store.Store.has c.args.objects.now.store in
    let j = g.W.Store.Store.has c.store_all.new.store in
    let after = Some (made_left c.store_all.new.input) in
    let w = subst (λ o. WholeKept c.args.self.now.workers c.args.self.now.schema.now trial_given (Some o) after mid j c.in-Ok.field-0) c.new-messages.ensures.left
    (subst (λ given. WholeKept c.args.self.now.workers c.args.self.now.schema.now given (Some (made_left c.new-messages.result)) after mid j c.in-Ok.field-0) c.requires.given c.in-Ok.ensures.stored) in
    asked_outlasts c.args.self.now.workers c.args.self.now.count c.args.self.now.schema.now mid c.ask.result j (g.W.Store.Store.has c.ask.new.objects.store) after c.in-Ok.field-0 w c.ask.ensures.looks

pub returns-clause-outlasts : goal.returns-clause-outlasts
returns-clause-outlasts g c =
    let mid = g.W.Store.Store.has c.args.objects.now.store in
    let now = g.W.Store.Store.has c.store_all.new.store in
    let after = Some (made_left c.store_all.new.input) in
    let w = subst (λ o. InputKept c.args.self.now.workers c.args.self.now.schema.now trial_given (Some o) after mid now (Err c.in-Err.fault)) c.new-messages.ensures.left
    (subst (λ given. InputKept c.args.self.now.workers c.args.self.now.schema.now given (Some (made_left c.new-messages.result)) after mid now (Err c.in-Err.fault)) c.requires.given c.in-Err.ensures.stored) in
    unstored_outlasts c.tell_unstored.result _ _ _ _ c.args.self.now.workers c.args.self.now.count c.args.self.now.schema.now mid now after c.in-Err.fault w c.tell_unstored.ensures

pub returns-in-Ok-clause-undamaged : goal.returns-in-Ok-clause-undamaged
returns-in-Ok-clause-undamaged g c = λ whole.
    let mid = g.W.Store.Store.has c.args.objects.now.store in
    let j = g.W.Store.Store.has c.store_all.new.store in
    let after = Some (made_left c.store_all.new.input) in
    let w = subst (λ o. WholeKept c.args.self.now.workers c.args.self.now.schema.now trial_given (Some o) after mid j c.in-Ok.field-0) c.new-messages.ensures.left
    (subst (λ given. WholeKept c.args.self.now.workers c.args.self.now.schema.now given (Some (made_left c.new-messages.result)) after mid j c.in-Ok.field-0) c.requires.given c.in-Ok.ensures.stored) in
    whole_undamaged c.args.self.now.count c.args.self.now.workers c.args.self.now.schema.now mid j after c.in-Ok.field-0 w

pub returns-clause-undamaged : goal.returns-clause-undamaged
returns-clause-undamaged g c = λ whole. never_whole _ c.tell_unstored.result (unstored_part c.in-Err.fault c.tell_unstored.result _ _ _ _ c.tell_unstored.ensures) whole

pub returns-in-Ok-clause-spares : goal.returns-in-Ok-clause-spares
returns-in-Ok-clause-spares g c = looked_spares (g.W.Store.Store.has c.args.objects.now.store) (g.W.Store.Store.has c.store_all.new.store) (g.W.Store.Store.has c.ask.new.objects.store) c.store_all.ensures.spares c.ask.ensures.looks
