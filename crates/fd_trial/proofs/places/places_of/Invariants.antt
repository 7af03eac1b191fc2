use Rattle.std.proofs.Common.{◌≡◌, length, map}
use Rattle.fd_schema.specs.Reading.{seen_place}
use Rattle.fd_trial.specs.Placed.{ArePlaced}
use Rattle.fd_trial.proofs.places.places_of.Given as goal

abbrev pub invariant-loop-i : goal.invariant-loop-i
invariant-loop-i l = record {
  placed : ArePlaced l.schema l.given 0 (map seen_place l.places.items);
  many : length l.places.items ≡ l.i;
}
