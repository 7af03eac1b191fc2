use Rattle.std.proofs.Common.{sym, eqb, length, arith}
use Rattle.std.proofs.lemmas.Bool.{eq-eqb}
use Rattle.std.proofs.lemmas.List.Sums.{position_or_len_is}
use Rattle.fd_spelling.proofs.numerals.place_of.Goals as goal

pub returns-then-b-mark : goal.returns-then-b-mark
returns-then-b-mark c =
    sym (position_or_len_is (λ b. eqb b c.args.mark) c.args.text.now c.loop-i.i 0 (omega arith) c.loop-i.invariant (λ _. eq-eqb _ _ c.if-b-mark.true))

pub returns : goal.returns
returns c =
    sym (position_or_len_is (λ b. eqb b c.args.mark) c.args.text.now (length c.args.text.now) 0 (omega arith) (λ k h. c.loop-i.invariant k (omega arith)) (λ h. absurd (omega arith)))
