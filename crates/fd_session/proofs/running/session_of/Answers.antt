use Rattle.std.proofs.Common.{refl}
use Rattle.fd_outcome.specs.Objects.{object}
use Rattle.fd_session.proofs.Ending.{Starves, idle_ran}
use Rattle.fd_session.proofs.Halting.{kept, line_halts}
use Rattle.fd_session.proofs.running.session_of.Goals as goal

pub returns-in-Err-At-clause-ran : goal.returns-in-Err-At-clause-ran
returns-in-Err-At-clause-ran g c = λ before faults left reads begun.
    let input = object left (g.W.Input.Source.left c.args.objects.now.input) reads (g.W.Input.Source.faults c.args.objects.now.input) in
    idle_ran _ _ _ _ _ _ refl refl (kept _ _ begun.same)
    (line_halts _ _ input _ c.args.schema.now begun.rules_are begun.calm c.args.read.now.script c.args.read.now.messages begun.read c.in-Err-At.line c.in-Err-At.kind (rw c.as_slice.ensures at (rw c.in-Err-At.field-0-is at c.in-Err-At.ensures.refused)) c.tell_miscast.ensures)

pub returns-in-Err-NoMemory-clause-ran : goal.returns-in-Err-NoMemory-clause-ran
returns-in-Err-NoMemory-clause-ran g c = λ before faults left reads begun.
    let input = object left (g.W.Input.Source.left c.args.objects.now.input) reads (g.W.Input.Source.faults c.args.objects.now.input) in
    idle_ran _ _ _ _ _ _ refl refl (kept _ _ begun.same) (Starves c.tell_no_memory.ensures)
