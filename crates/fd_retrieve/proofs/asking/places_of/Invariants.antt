use Rattle.std.proofs.Common.{◌≡◌, length, map}
use Rattle.fd_request.specs.Expansion.{expand}
use Rattle.fd_schema.specs.Reading.{seen_place}
use Rattle.fd_retrieve.proofs.ReadyLemmas.{HavePlaces}
use Rattle.fd_retrieve.proofs.asking.places_of.Given as goal

abbrev pub invariant-loop-seat : goal.invariant-loop-seat
invariant-loop-seat g l = record {
  next : (goal.iterator-loop-seat g).can_next l.seat-iterator;
  ends : (goal.iterator-loop-seat g).is_finite l.seat-iterator;
  long : length l.places.items ≡ length l.yielded;
  so_far : HavePlaces l.schema (expand l.request) (map seen_place l.places.items);
}
