use Rattle.std.proofs.Common.{ℕ, ◌<◌, ◌+◌, get_or}
use Rattle.std.specs.Prelude.{Result}
use Rattle.fd_request.specs.Expansion.{expand}
use Rattle.fd_schema.specs.declared.place.Place.{Place}
use Rattle.fd_retrieve.specs.declared.asking.Unplaced.{Unplaced}
use Rattle.fd_retrieve.specs.Seats.{IsSought}
use Rattle.fd_retrieve.proofs.asking.seek_share.Given as goal

abbrev pub invariant-loop-i : goal.invariant-loop-i
invariant-loop-i l = record {
  done : (j : ℕ) (d : Result Place Unplaced) → j < l.i → IsSought l.schema (expand l.request) (l.start + j) (get_or l.seats j d);
}
