use Rattle.std.proofs.Common.{◌≡◌, ◌∙◌, refl, sym, subst, Ok}
use Rattle.std.specs.Prelude.{IfSome}
use Rattle.fd_outcome.specs.Asking.{rules_of}
use Rattle.fd_session.proofs.Ending.{idle_ran}
use Rattle.fd_session.proofs.Halting.{kept, unruled_halts}
use Rattle.fd_session.proofs.Unread.{reads_none, reads_ruled}
use Rattle.fd_session.proofs.running.session.Goals as goal

pub session_by-requires-clause-rules : goal.session_by-requires-clause-rules
session_by-requires-clause-rules g c κs within = subst (λ o. IfSome o (λ h. rules_of h.schema ≡ Ok c.in-Ok.schema)) (sym c.stored_schema.ensures.has) c.in-Ok.ensures.ok

pub returns-in-Ok-clause-ran : goal.returns-in-Ok-clause-ran
returns-in-Ok-clause-ran g c = c.session_by.ensures.ran (g.W.Store.Store.has c.args.objects.now.store) (g.W.Store.Store.faults c.args.objects.now.store) c.stored_schema.ensures.has c.stored_schema.ensures.later

pub returns-in-Err-clause-ran : goal.returns-in-Err-clause-ran
returns-in-Err-clause-ran g c =
    idle_ran _ _ _ _ _ _ refl refl (kept _ _ (c.tell_unruled.ensures.has ∙ c.stored_schema.ensures.has))
    (unruled_halts _ (g.W.Store.Store.has c.args.objects.now.store) (g.W.Store.Store.has c.tell_unruled.new.store) (g.W.Store.Store.faults c.args.objects.now.store) (g.W.Store.Store.faults c.stored_schema.new.store) (g.W.Store.Store.faults c.tell_unruled.new.store) _ refl _ _ _ _
    c.in-Err.unruled c.in-Err.ensures.err c.tell_unruled.ensures.told c.stored_schema.ensures.later c.tell_unruled.ensures.noted)

pub returns-in-Ok-clause-unread : goal.returns-in-Ok-clause-unread
returns-in-Ok-clause-unread g c = reads_ruled _ c.in-Ok.schema (g.W.Store.Store.has c.args.objects.now.store) c.in-Ok.ensures.ok

pub returns-in-Err-clause-unread : goal.returns-in-Err-clause-unread
returns-in-Err-clause-unread g c = reads_none _ (g.W.Store.Store.has c.args.objects.now.store) (record { same = refl; calm = refl })
