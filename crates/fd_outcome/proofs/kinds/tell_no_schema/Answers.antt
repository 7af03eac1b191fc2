use Rattle.std.proofs.Common.{inl, inr, refl, ◌∙◌, sym, subst}
use Rattle.std.specs.Prelude.{slice_index, ◌++◌, if◌then◌else◌}
use Rattle.std.specs.Fmt.{decimal}
use Rattle.fd_listing.specs.Lines.{blank, line}
use Rattle.fd_schema.specs.Reading.{line_of}
use Rattle.fd_schema.specs.FaultTexts.{schema_wrong_text}
use Rattle.fd_stored.specs.declared.status.Status.TheVariants.{Limit, NoMemory}
use Rattle.fd_stored.specs.Causes.{Telling, schema_limit}
use Rattle.fd_outcome.specs.Told.{ToldOrNoMemory}
use Rattle.fd_outcome.proofs.kinds.tell_no_schema.Goals as goal

pub returns-clause-told : goal.returns-clause-told
returns-clause-told g c = λ source fault first.
    let byte = slice_index source fault.at in
    let plain = sym (c.is_schema_limit.ensures byte fault.kind first.kind_is) ∙ c.if-is_schema_limit.false in
    let kind_is = c.as_str-else-is_schema_limit.ensures.value ∙ c.in-Ok.ensures byte fault.kind first.kind_is in
    let told : ToldOrNoMemory c.args.status (line (c.args.words.now ++ decimal (line_of source fault.at) ++ blank (schema_wrong_text byte fault.kind))) c.tell_place.result (g.E.Sink.taken c.args.report.now) (g.E.Sink.taken c.tell_place.new.report) (g.E.Sink.faults c.args.report.now) (g.E.Sink.faults c.tell_place.new.report) =
    subst (λ n. ToldOrNoMemory c.args.status (line (c.args.words.now ++ decimal n ++ blank (schema_wrong_text byte fault.kind))) c.tell_place.result (g.E.Sink.taken c.args.report.now) (g.E.Sink.taken c.tell_place.new.report) (g.E.Sink.faults c.args.report.now) (g.E.Sink.faults c.tell_place.new.report)) first.line_is
    (subst (λ t. ToldOrNoMemory c.args.status (line (c.args.words.now ++ decimal c.args.line ++ blank t)) c.tell_place.result (g.E.Sink.taken c.args.report.now) (g.E.Sink.taken c.tell_place.new.report) (g.E.Sink.faults c.args.report.now) (g.E.Sink.faults c.tell_place.new.report)) kind_is c.tell_place.ensures) in
    let so : Telling = record { status = c.args.status; line = line (c.args.words.now ++ decimal (line_of source fault.at) ++ blank (schema_wrong_text byte fault.kind)) } in
    subst (λ b. ToldOrNoMemory (if b then schema_limit source fault else so).status (if b then schema_limit source fault else so).line c.tell_place.result (g.E.Sink.taken c.args.report.now) (g.E.Sink.taken c.tell_place.new.report) (g.E.Sink.faults c.args.report.now) (g.E.Sink.faults c.tell_place.new.report)) (sym plain) told

pub returns-clause-some : goal.returns-clause-some
returns-clause-some g c = elim c.tell_place.ensures [ inl t ↦ (c.args.status, _, inl refl, t) | inr t ↦ (NoMemory, _, inr (inr refl), t) ]

pub returns-then-is_schema_limit-clause-some : goal.returns-then-is_schema_limit-clause-some
returns-then-is_schema_limit-clause-some g c = elim c.tell_limit.ensures [ inl t ↦ (Limit, _, inr (inl refl), t) | inr t ↦ (NoMemory, _, inr (inr refl), t) ]
