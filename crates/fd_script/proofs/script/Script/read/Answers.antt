use Rattle.std.proofs.Common.{◌≡◌, ◌∙◌, ◌&&◌, not, sym, ap, subst, refl, length, ltb, []}
use Rattle.fd_script.specs.Lines.{lines_of}
use Rattle.fd_script.specs.Grammar.{TooLong, has_messages, script_from}
use Rattle.fd_script.specs.Reading.{Gives}
use Rattle.fd_script.proofs.Turns.{not_long, too_long}
use Rattle.fd_script.proofs.script.Script.read.Goals as goal

pub returns-then-is_too_long-clause-script : goal.returns-then-is_too_long-clause-script
returns-then-is_too_long-clause-script c =
    (TooLong, refl, too_long c.args.text.now (ap (λ f. ltb 1048576 (length c.args.text.now) && not (has_messages (lines_of f))) (sym c.front_of-front.ensures.front) ∙ sym c.is_too_long.ensures ∙ c.if-is_too_long.true))

pub returns-clause-script : goal.returns-clause-script
returns-clause-script c =
    let front = ap (λ f. ltb 1048576 (length c.args.text.now) && not (has_messages (lines_of f))) (sym c.front_of-front.ensures.front) in
    subst (λ r. Gives r c.read_lines.result) (sym (not_long c.args.text.now (front ∙ sym c.is_too_long.ensures ∙ c.if-is_too_long.false) ∙ ap (λ f. script_from 0 [] (lines_of f)) (sym c.front_of-front.ensures.front))) c.read_lines.ensures.script
