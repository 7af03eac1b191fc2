use Rattle.std.proofs.Common.{◌≡◌, ◌∙◌, ◌++◌, ℕ, List, ap, arith}
use Rattle.std.specs.Prelude.{string_bytes}
use Rattle.std.specs.Fmt.{decimal}
use Rattle.fd_spelling.proofs.Digits.{short_number}
use Rattle.fd_spelling.proofs.ValueLaws.{number_is_value}
use Rattle.fd_spelling.proofs.values.number_text.Goals as goal

pub returns-clause-short : goal.returns-clause-short
returns-clause-short c =
    let text : string_bytes c.push_number.new.out ≡ decimal c.args.number = c.in_ok-push_number.ensures ∙ ap (λ (t : List ℕ). t ++ decimal c.args.number) c.in_ok-out.ensures.bytes in
    short_number 10 c.args.number _ text (omega arith) (omega arith) (omega arith)

pub returns-clause-value : goal.returns-clause-value
returns-clause-value c =
    let text : string_bytes c.push_number.new.out ≡ decimal c.args.number = c.in_ok-push_number.ensures ∙ ap (λ (t : List ℕ). t ++ decimal c.args.number) c.in_ok-out.ensures.bytes in
    rw text (number_is_value c.args.number (omega arith))
