use Rattle.std.proofs.Common.{◌≡◌, ◌∙◌, sym, subst, Bool, Some, None}
use Rattle.fd_sections.specs.Stream.{stream}
use Rattle.fd_split.specs.declared.refusal.Refusal.TheVariants.{Cut, Input}
use Rattle.fd_session.specs.Inputs.{refusal_of}
use Rattle.fd_session.proofs.Parting.{ends_cut, ends_past, ends_whole}
use Rattle.fd_session.proofs.splitting.stream_end.Goals as goal

pub returns-then-past : goal.returns-then-past
returns-then-past c = λ octets messages h.
    subst (λ (b : Bool). refusal_of b (stream octets) ≡ Some Input) (sym c.if-past.true) (ends_past octets c.args.splitter messages h c.requires)

pub returns-in-Ok : goal.returns-in-Ok
returns-in-Ok c = λ octets messages h.
    let z = ends_whole octets c.args.splitter messages h c.in-Ok.field-0 c.requires (sym c.in-Ok.is ∙ c.finish.ensures) in
    (z.0, subst (λ (b : Bool). refusal_of b (stream octets) ≡ None) (sym c.if-past.false) z.1, c.if-past.false)

pub returns-in-Err : goal.returns-in-Err
returns-in-Err c = λ octets messages h.
    subst (λ (b : Bool). refusal_of b (stream octets) ≡ Some (Cut c.in-Err.cut)) (sym c.if-past.false)
    (ends_cut octets c.args.splitter messages h c.in-Err.cut c.requires (sym c.in-Err.is ∙ c.finish.ensures))
