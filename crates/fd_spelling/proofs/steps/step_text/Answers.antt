use Rattle.std.proofs.Common.{◌≡◌, ◌∙◌, ◌++◌, ℕ, List, ap, arith}
use Rattle.std.specs.Prelude.{string_bytes}
use Rattle.fd_spelling.specs.Steps.{step_text}
use Rattle.fd_spelling.proofs.ShortTexts.{step_short}
use Rattle.fd_spelling.proofs.ValueLaws.{step_is_value, seconds_few}
use Rattle.fd_spelling.proofs.steps.step_text.Goals as goal

pub returns-clause-short : goal.returns-clause-short
returns-clause-short c =
    let text : string_bytes c.push_step.new.out ≡ step_text c.args.negative c.args.number c.args.unit =
    c.in_ok-push_step.ensures ∙ ap (λ (t : List ℕ). t ++ step_text c.args.negative c.args.number c.args.unit) c.in_ok-out.ensures.bytes in
    rw text (step_short c.args.negative c.args.number c.args.unit c.requires (omega arith))

pub returns-clause-value : goal.returns-clause-value
returns-clause-value c =
    let text : string_bytes c.push_step.new.out ≡ step_text c.args.negative c.args.number c.args.unit =
    c.in_ok-push_step.ensures ∙ ap (λ (t : List ℕ). t ++ step_text c.args.negative c.args.number c.args.unit) c.in_ok-out.ensures.bytes in
    let short = step_short c.args.negative c.args.number c.args.unit c.requires (omega arith) in
    rw text (step_is_value c.args.negative c.args.number c.args.unit c.requires (omega arith) (λ s h. seconds_few c.args.number c.args.unit s c.requires h) short)
