use Rattle.std.proofs.Common.{◌∙◌, ◌++◌, subst}
use Rattle.std.specs.Prelude.{codes}
use Rattle.fd_listing.specs.Lines.{line}
use Rattle.fd_stored.specs.declared.status.Status.TheVariants.{Refused}
use Rattle.fd_outcome.specs.Told.{ToldOrNoMemory}
use Rattle.fd_contents.proofs.telling.tell_no_request.Goals as goal

pub returns-in-Ok : goal.returns-in-Ok
returns-in-Ok g c =
    subst (λ t. ToldOrNoMemory Refused (line (codes "refused NoRequest " ++ t)) c.tell_text.result (g.E.Sink.taken c.args.report.now) (g.E.Sink.taken c.tell_text.new.report) (g.E.Sink.faults c.args.report.now) (g.E.Sink.faults c.tell_text.new.report))
    (c.as_str.ensures.value ∙ c.in-Ok.ensures) c.tell_text.ensures
