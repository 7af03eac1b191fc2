use Rattle.std.proofs.Common.{◌≡◌, ℕ, List, Option, Some, map, take}
use Rattle.fd_schema.specs.declared.place.Place.{Place}
use Rattle.fd_schema.specs.Reading.{seen_place}
use Rattle.fd_outcome.specs.Trying.{tally_of}
use Rattle.fd_ahead.specs.Reading.{IsStock}
use Rattle.fd_retrieve.specs.Counting.{IsTally, finds}
use Rattle.fd_retrieve.specs.Located.{AreLocated}
use Rattle.fd_retrieve.specs.Open.{table_in}
use Rattle.fd_retrieve.proofs.counting.count_all.Given as goal

abbrev pub invariant-loop-i : goal.invariant-loop-i
invariant-loop-i g l = record {
  counted : (places : List Place) (xs : List (Option (List ℕ))) → AreLocated l.opened places l.located → finds (table_in l.opened) (map seen_place places) ≡ Some xs → IsTally l.so_far (tally_of (take l.i xs));
  stock : IsStock l.opened l.stock;
}
