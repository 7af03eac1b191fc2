use Rattle.std.proofs.Common.{◌≡◌, ◌<◌, ℕ, length, get_or, Option, None}
use Rattle.fd_ahead.specs.declared.located.Located.{Located}
use Rattle.fd_retrieve.proofs.locating.nowhere.Given as goal

abbrev pub invariant-loop-i : goal.invariant-loop-i
invariant-loop-i l = record {
  long : length l.located.items ≡ l.i;
  none : (k : ℕ) (e : Option Located) → k < l.i → get_or l.located.items k e ≡ None;
}
