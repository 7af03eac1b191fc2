use Rattle.std.proofs.Common.{◌≡◌, ◌<◌, ℕ, get_or, false, not}
use Rattle.std.specs.Char.{is_ascii_digit}
use Rattle.fd_spelling.proofs.numerals.digit_count.Given as goal

abbrev pub invariant-loop-i : goal.invariant-loop-i
invariant-loop-i l = (k : ℕ) → k < l.i → not (is_ascii_digit (get_or l.text k 0)) ≡ false
