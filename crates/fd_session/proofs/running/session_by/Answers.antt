use Rattle.std.proofs.Common.{◌≡◌, refl, subst, Ok}
use Rattle.std.specs.Prelude.{IfSome}
use Rattle.fd_outcome.specs.Asking.{rules_of}
use Rattle.fd_session.proofs.Ending.{Starves, Unread, idle_ran}
use Rattle.fd_session.proofs.Halting.{kept, script_halts, stream_halts}
use Rattle.fd_session.proofs.running.session_by.Goals as goal

pub returns-in-Ok-clause-ran : goal.returns-in-Ok-clause-ran
returns-in-Ok-clause-ran g c = λ before faults same later.
    c.session_of.ensures.ran before faults (g.W.Input.Source.left c.args.objects.now.input) (g.W.Input.Source.faults c.args.objects.now.input) (record {
      same = same;
      later = later;
      rules_are = subst (λ o. IfSome o (λ h. rules_of h.schema ≡ Ok c.args.schema.now)) same c.requires.rules;
      read = c.in-Ok.ensures.input;
      to_end = c.in-Ok.ensures.to_end;
      calm = c.in-Ok.ensures.calm;
    })

pub returns-in-Err-Unread-clause-ran : goal.returns-in-Err-Unread-clause-ran
returns-in-Err-Unread-clause-ran g c = λ before faults same later.
    idle_ran _ _ _ _ _ _ refl refl (kept _ _ same) (Unread (rw c.in-Err-Unread.field-0-is at c.in-Err-Unread.ensures.cause) c.tell_input_failed.ensures)

pub returns-in-Err-Script-At-clause-ran : goal.returns-in-Err-Script-At-clause-ran
returns-in-Err-Script-At-clause-ran g c = λ before faults same later.
    let named = rw c.in-Err-Script-At.field-0-0-is at (rw c.in-Err-Script-At.field-0-is at c.in-Err-Script-At.ensures.named) in
    idle_ran _ _ _ _ _ _ refl refl (kept _ _ same)
    (script_halts _ _ _ _ c.args.schema.now (subst (λ o. IfSome o (λ h. rules_of h.schema ≡ Ok c.args.schema.now)) same c.requires.rules) (rw c.in-Err-Script-At.field-0-is at c.in-Err-Script-At.ensures.calm_err)
    c.in-Err-Script-At.line c.in-Err-Script-At.kind named.0 named.1 (rw c.in-Err-Script-At.field-0-0-is at (rw c.in-Err-Script-At.field-0-is at c.in-Err-Script-At.ensures.refused)) (c.tell_script.ensures named.0 named.1))

pub returns-in-Err-Script-NoMemory-clause-ran : goal.returns-in-Err-Script-NoMemory-clause-ran
returns-in-Err-Script-NoMemory-clause-ran g c = λ before faults same later. idle_ran _ _ _ _ _ _ refl refl (kept _ _ same) (Starves c.tell_no_memory.ensures)

pub returns-in-Err-Stream-clause-ran : goal.returns-in-Err-Stream-clause-ran
returns-in-Err-Stream-clause-ran g c = λ before faults same later.
    idle_ran _ _ _ _ _ _ refl refl (kept _ _ same)
    (stream_halts _ _ _ _ c.args.schema.now (subst (λ o. IfSome o (λ h. rules_of h.schema ≡ Ok c.args.schema.now)) same c.requires.rules) (rw c.in-Err-Stream.field-0-is at c.in-Err-Stream.ensures.calm_err)
    c.in-Err-Stream.refusal (rw c.in-Err-Stream.field-0-is at c.in-Err-Stream.ensures.refused) c.tell_refusal.ensures.told)

pub returns-in-Err-NoMemory-clause-ran : goal.returns-in-Err-NoMemory-clause-ran
returns-in-Err-NoMemory-clause-ran g c = λ before faults same later. idle_ran _ _ _ _ _ _ refl refl (kept _ _ same) (Starves c.tell_no_memory-in-Err-NoMemory.ensures)
