use Rattle.std.proofs.Common.{ℕ, List, refl, subst}
use Rattle.fd_session.specs.Endings.{closing}
use Rattle.fd_session.specs.Writes.{ToldClosing}
use Rattle.fd_session.proofs.Telled.{closed, no_found, no_text, starved}
use Rattle.fd_session.proofs.closing.tell_session.Goals as goal

pub returns-in-Err : goal.returns-in-Err
returns-in-Err g c = no_found _ _ _ _ _ _ _ _ _ _ _ _ c.in-Err.ensures.front c.in-Err.ensures.cause c.tell_output_failed.ensures

pub returns-in-Err-Write : goal.returns-in-Err-Write
returns-in-Err-Write g c =
    no_text _ _ _ _ _ _ _ _ _ _ _ _ c.in-Ok.ensures.took c.in-Err-Write.ensures.front (rw c.in-Err-Write.field-0-is at c.in-Err-Write.ensures.cause) refl

pub returns-in-Err-NoMemory : goal.returns-in-Err-NoMemory
returns-in-Err-NoMemory g c =
    starved _ _ _ _ _ _ _ _ _ _ _ _ (g.E.Sink.taken c.tell_transcript.new.report) (g.E.Sink.faults c.tell_transcript.new.report) (rw c.in-Err-NoMemory.field-0-is at c.in-Err-NoMemory.ensures.cause)
    c.in-Ok.ensures.took (rw c.in-Err-NoMemory.field-0-is at c.in-Err-NoMemory.ensures.short) c.tell_no_memory.ensures

pub returns : goal.returns
returns g c =
    closed _ _ _ _ _ _ _ _ _ _ _ _ (g.E.Sink.taken c.tell_transcript.new.report) (g.E.Sink.faults c.tell_transcript.new.report) c.in-Ok-tell_transcript.ensures.cause
    c.in-Ok.ensures.took c.in-Ok.ensures.calm c.in-Ok-tell_transcript.ensures.took
    (subst (λ (d : List ℕ). ToldClosing (closing d c.args.transcript.now.lanes) c.tell_closing.result (g.E.Sink.taken c.tell_transcript.new.report) (g.E.Sink.taken c.tell_closing.new.report) (g.E.Sink.faults c.tell_transcript.new.report) (g.E.Sink.faults c.tell_closing.new.report)) c.dataset.ensures c.tell_closing.ensures)
