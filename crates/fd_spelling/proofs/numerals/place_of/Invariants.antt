use Rattle.std.proofs.Common.{◌≡◌, ◌<◌, ℕ, eqb, get_or, false}
use Rattle.fd_spelling.proofs.numerals.place_of.Given as goal

abbrev pub invariant-loop-i : goal.invariant-loop-i
invariant-loop-i l = (k : ℕ) → k < l.i → eqb (get_or l.text k 0) l.mark ≡ false
