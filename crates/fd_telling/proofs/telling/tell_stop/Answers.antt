use Rattle.std.proofs.Common.{inl, subst}
use Rattle.std.specs.Prelude.{codes, ◌++◌}
use Rattle.std.specs.Fmt.{decimal}
use Rattle.fd_listing.specs.Lines.{blank, line}
use Rattle.fd_stored.specs.declared.status.Status.TheVariants.{Refused}
use Rattle.fd_outcome.specs.Told.{ToldOrNoMemory}
use Rattle.fd_telling.proofs.telling.tell_stop.Goals as goal

pub returns-in-TooMany-clause-told : goal.returns-in-TooMany-clause-told
returns-in-TooMany-clause-told g c = rw c.in-TooMany.is (inl c.tell-in-TooMany.ensures)

pub returns-in-NoRule-clause-told : goal.returns-in-NoRule-clause-told
returns-in-NoRule-clause-told g c = rw c.in-NoRule.is (subst (λ t. ToldOrNoMemory Refused (line (codes "refused NoRule " ++ t)) c.tell_text.result (g.E.Sink.taken c.args.report.now) (g.E.Sink.taken c.tell_text.new.report) (g.E.Sink.faults c.args.report.now) (g.E.Sink.faults c.tell_text.new.report)) c.as_str.ensures.value c.tell_text.ensures)

pub returns-in-NoLayer-clause-told : goal.returns-in-NoLayer-clause-told
returns-in-NoLayer-clause-told g c = rw c.in-NoLayer.is (subst (λ t. ToldOrNoMemory Refused (line (codes "refused Layer " ++ decimal c.in-NoLayer.layer ++ blank t)) c.tell_place.result (g.E.Sink.taken c.args.report.now) (g.E.Sink.taken c.tell_place.new.report) (g.E.Sink.faults c.args.report.now) (g.E.Sink.faults c.tell_place.new.report)) c.as_str-in-NoLayer.ensures.value c.tell_place.ensures)
