use Rattle.std.proofs.Common.{◌∙◌, sym, subst}
use Rattle.std.specs.Prelude.{codes, ◌++◌, if◌then◌else◌}
use Rattle.std.specs.Fmt.{decimal}
use Rattle.fd_listing.specs.Lines.{blank, line}
use Rattle.fd_request.specs.Reading.{seen_kind}
use Rattle.fd_request.specs.FaultTexts.{request_wrong_text}
use Rattle.fd_stored.specs.declared.status.Status.TheVariants.{Refused}
use Rattle.fd_stored.specs.Causes.{limited_so, refused_so}
use Rattle.fd_outcome.specs.Told.{ToldOrNoMemory}
use Rattle.fd_telling.proofs.telling.tell_request.Goals as goal

pub returns : goal.returns
returns g c =
    let kind = seen_kind c.args.kind.now in
    let plain = sym c.is_request_limit.ensures ∙ c.if-is_request_limit.false in
    let kind_is = c.as_str-else-is_request_limit.ensures.value ∙ c.in-Ok.ensures in
    let told : ToldOrNoMemory Refused (line (codes "refused request " ++ decimal c.args.at ++ blank (request_wrong_text kind))) c.tell_place.result (g.E.Sink.taken c.args.report.now) (g.E.Sink.taken c.tell_place.new.report) (g.E.Sink.faults c.args.report.now) (g.E.Sink.faults c.tell_place.new.report) =
    subst (λ t. ToldOrNoMemory Refused (line (codes "refused request " ++ decimal c.args.at ++ blank t)) c.tell_place.result (g.E.Sink.taken c.args.report.now) (g.E.Sink.taken c.tell_place.new.report) (g.E.Sink.faults c.args.report.now) (g.E.Sink.faults c.tell_place.new.report)) kind_is c.tell_place.ensures in
    let so = refused_so (codes "request " ++ decimal c.args.at ++ blank (request_wrong_text kind)) in
    subst (λ b. ToldOrNoMemory (if b then limited_so (request_wrong_text kind) else so).status (if b then limited_so (request_wrong_text kind) else so).line c.tell_place.result (g.E.Sink.taken c.args.report.now) (g.E.Sink.taken c.tell_place.new.report) (g.E.Sink.faults c.args.report.now) (g.E.Sink.faults c.tell_place.new.report)) (sym plain) told
