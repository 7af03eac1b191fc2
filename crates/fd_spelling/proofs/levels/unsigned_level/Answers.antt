use Rattle.std.proofs.Common.{◌≡◌, ◌∙◌, sym, true, ℕ, List}
use Rattle.fd_spelling.specs.Numerals.{is_numeral}
use Rattle.fd_spelling.proofs.PieceLaws.{cut_lengths}
use Rattle.fd_spelling.proofs.ValueLaws.{with_point_decimal, without_point_decimal}
use Rattle.fd_spelling.proofs.levels.unsigned_level.Goals as goal

pub returns-in_ok-level_text-in-Some-clause-decimal : goal.returns-in_ok-level_text-in-Some-clause-decimal
returns-in_ok-level_text-in-Some-clause-decimal c =
    let parts : List ℕ × List ℕ = (c.in-Some.whole.now, c.in-Some.fraction.now) in
    let lengths = cut_lengths 46 c.args.text.now parts (sym c.in-Some.ensures) in
    let whole : is_numeral c.in-Some.whole.now ≡ true = sym c.is_numeral.ensures ∙ c.if-not-is_numeral.false in
    let fraction : is_numeral c.in-Some.fraction.now ≡ true = sym c.is_numeral-else-not-is_numeral.ensures ∙ c.if-not-is_numeral-2.false in
    rw c.in_ok-level_text-in-Some.ensures (with_point_decimal c.args.negative c.in-Some.whole.now c.in-Some.fraction.now _ whole fraction lengths)

pub returns-in_ok-level_text-in-None-clause-decimal : goal.returns-in_ok-level_text-in-None-clause-decimal
returns-in_ok-level_text-in-None-clause-decimal c =
    let whole : is_numeral c.args.text.now ≡ true = sym c.is_numeral-in-None.ensures ∙ c.if-not-is_numeral-3.false in
    rw c.in_ok-level_text-in-None.ensures (without_point_decimal c.args.negative c.args.text.now whole)
