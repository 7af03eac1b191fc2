use Rattle.std.proofs.Common.{◌≡◌, ◌<◌, ℕ, length, get_or, Option}
use Rattle.fd_schema.specs.declared.place.Place.{Place}
use Rattle.fd_schema.specs.Reading.{seen_place}
use Rattle.fd_retrieve.specs.Located.{IsNumberOf}
use Rattle.fd_retrieve.proofs.locating.numbers_of.Given as goal

abbrev pub invariant-loop-i : goal.invariant-loop-i
invariant-loop-i g l = record {
  long : length l.numbers.items ≡ l.i;
  each : (k : ℕ) (p : Place) (d : Option ℕ) → k < l.i → IsNumberOf l.opened (seen_place (get_or l.places k p)).dataset (get_or l.numbers.items k d);
}
