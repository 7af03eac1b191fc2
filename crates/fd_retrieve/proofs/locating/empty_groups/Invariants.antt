use Rattle.std.proofs.Common.{◌≡◌, ℕ, [], length}
use Rattle.fd_retrieve.specs.Located.{keys_in}
use Rattle.fd_retrieve.proofs.locating.empty_groups.Given as goal

abbrev pub invariant-loop-i : goal.invariant-loop-i
invariant-loop-i l = record {
  long : length l.groups.items ≡ l.i;
  none : (n : ℕ) → keys_in l.groups.items n ≡ [];
}
