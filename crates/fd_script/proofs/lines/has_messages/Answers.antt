use Rattle.std.proofs.Common.{◌≡◌, ◌∙◌, ◌∷◌, sym, ap, true, false}
use Rattle.std.specs.Prelude.{◌||◌, codes}
use Rattle.std.specs.Option.{option_copied}
use Rattle.std.specs.Str.{bytes_eq}
use Rattle.fd_script.specs.Lines.{lines_if, lines_of}
use Rattle.fd_script.specs.Grammar.{has_messages}
use Rattle.fd_script.proofs.Bytes.{has_end, has_turn}
use Rattle.fd_script.proofs.lines.has_messages.Goals as goal

pub returns-in-None : goal.returns-in-None
returns-in-None c =
    sym (c.lines.invariant ∙ ap has_messages (c.first_line.ensures.lines ∙ ap (λ o. c.first_line.result.0.now ∷ lines_if (option_copied o)) c.in-None.is) ∙ has_end c.first_line.result.0.now)

pub returns-then-eq : goal.returns-then-eq
returns-then-eq c =
    let e : bytes_eq c.first_line.result.0.now (codes "messages") ≡ true = ap (bytes_eq c.first_line.result.0.now) (sym c.as_slice.ensures) ∙ sym c.eq.ensures ∙ c.if-eq.true in
    sym (c.lines.invariant ∙ ap has_messages (c.first_line.ensures.lines ∙ ap (λ o. c.first_line.result.0.now ∷ lines_if (option_copied o)) c.in-Some.is)
    ∙ has_turn c.first_line.result.0.now c.in-Some.others.now ∙ ap (λ b. b || has_messages (lines_of c.in-Some.others.now)) e)

pub lines-preserved : goal.lines-preserved
lines-preserved c =
    let e : bytes_eq c.first_line.result.0.now (codes "messages") ≡ false = ap (bytes_eq c.first_line.result.0.now) (sym c.as_slice.ensures) ∙ sym c.eq.ensures ∙ c.if-eq.false in
    c.lines.invariant ∙ ap has_messages (c.first_line.ensures.lines ∙ ap (λ o. c.first_line.result.0.now ∷ lines_if (option_copied o)) c.in-Some.is)
    ∙ has_turn c.first_line.result.0.now c.in-Some.others.now ∙ ap (λ b. b || has_messages (lines_of c.in-Some.others.now)) e
