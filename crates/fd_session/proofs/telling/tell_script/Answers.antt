use Rattle.std.proofs.Common.{◌≡◌, ◌∙◌, sym, subst, ℕ, List, Option, None}
use Rattle.fd_outcome.specs.Told.{ToldOrNoMemory}
use Rattle.fd_session.specs.Telling.{limit_or_line, limit_text, line_refused, wrong_text}
use Rattle.fd_session.proofs.telling.tell_script.Goals as goal

pub returns-in-Ok-None : goal.returns-in-Ok-None
returns-in-Ok-None g c = λ w is.
    let none : limit_text w ≡ None = sym (rw c.in-Ok-None.field-0-is at c.in-Ok-None.ensures w is) in
    let text : c.as_str-in-Ok-None.result.now ≡ wrong_text w = c.as_str-in-Ok-None.ensures.value ∙ c.in-Ok.ensures w is in
    subst (λ (o : Option (List ℕ)). ToldOrNoMemory (limit_or_line c.args.line (wrong_text w) o).status (limit_or_line c.args.line (wrong_text w) o).line c.tell_line_refused.result (g.E.Sink.taken c.args.report.now) (g.E.Sink.taken c.tell_line_refused.new.report) (g.E.Sink.faults c.args.report.now) (g.E.Sink.faults c.tell_line_refused.new.report)) (sym none)
    (subst (λ (t : List ℕ). ToldOrNoMemory (line_refused c.args.line t).status (line_refused c.args.line t).line c.tell_line_refused.result (g.E.Sink.taken c.args.report.now) (g.E.Sink.taken c.tell_line_refused.new.report) (g.E.Sink.faults c.args.report.now) (g.E.Sink.faults c.tell_line_refused.new.report)) text c.tell_line_refused.ensures)
