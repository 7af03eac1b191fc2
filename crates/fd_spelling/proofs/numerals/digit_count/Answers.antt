use Rattle.std.proofs.Common.{◌∙◌, sym, ap, not, length, arith}
use Rattle.std.specs.Char.{is_ascii_digit}
use Rattle.std.proofs.lemmas.List.Sums.{position_or_len_is}
use Rattle.fd_spelling.proofs.numerals.digit_count.Goals as goal

pub returns-then-not-is_ascii_digit : goal.returns-then-not-is_ascii_digit
returns-then-not-is_ascii_digit c =
    sym (position_or_len_is (λ b. not (is_ascii_digit b)) c.args.text.now c.loop-i.i 0 (omega arith) c.loop-i.invariant (λ _. ap not (sym c.is_ascii_digit.ensures.value ∙ c.if-not-is_ascii_digit.true)))

pub returns : goal.returns
returns c =
    sym (position_or_len_is (λ b. not (is_ascii_digit b)) c.args.text.now (length c.args.text.now) 0 (omega arith) (λ k h. c.loop-i.invariant k (omega arith)) (λ h. absurd (omega arith)))
