use Rattle.std.specs.Prelude.{◌≡◌, length}
use Rattle.fd_retrieve.proofs.asking.seats_of.Given as goal

abbrev pub invariant-loop-number : goal.invariant-loop-number
invariant-loop-number g l = record { long : length l.seats.items ≡ l._number }
