use Rattle.std.proofs.Common.{◌∙◌, subst}
use Rattle.std.specs.Prelude.{codes, ◌++◌}
use Rattle.std.specs.Fmt.{decimal}
use Rattle.fd_listing.specs.Lines.{blank, line}
use Rattle.fd_stored.specs.declared.status.Status.TheVariants.{Limit}
use Rattle.fd_outcome.specs.Told.{ToldOrNoMemory}
use Rattle.fd_reclaim.proofs.telling.tell_writers.Goals as goal

pub returns-in-Ok : goal.returns-in-Ok
returns-in-Ok g c =
    subst (λ t. ToldOrNoMemory Limit (line (codes "limit Writers " ++ decimal c.args.entry ++ blank t)) c.tell_place.result (g.E.Sink.taken c.args.report.now) (g.E.Sink.taken c.tell_place.new.report) (g.E.Sink.faults c.args.report.now) (g.E.Sink.faults c.tell_place.new.report))
    (c.as_str.ensures.value ∙ c.in-Ok.ensures.ok) c.tell_place.ensures
