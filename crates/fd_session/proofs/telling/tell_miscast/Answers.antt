use Rattle.std.proofs.Common.{◌≡◌, ◌∙◌, List, ℕ, subst}
use Rattle.fd_casting.specs.Texts.{miscast_text}
use Rattle.fd_outcome.specs.Told.{ToldOrNoMemory}
use Rattle.fd_session.specs.Telling.{line_refused}
use Rattle.fd_session.proofs.telling.tell_miscast.Goals as goal

pub returns-in-Ok : goal.returns-in-Ok
returns-in-Ok g c =
    let text : c.as_str.result.now ≡ miscast_text c.args.kind = c.as_str.ensures.value ∙ c.in-Ok.ensures in
    subst (λ (t : List ℕ). ToldOrNoMemory (line_refused c.args.line t).status (line_refused c.args.line t).line c.tell_line_refused.result (g.E.Sink.taken c.args.report.now) (g.E.Sink.taken c.tell_line_refused.new.report) (g.E.Sink.faults c.args.report.now) (g.E.Sink.faults c.tell_line_refused.new.report)) text c.tell_line_refused.ensures
