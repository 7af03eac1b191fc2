use Rattle.std.proofs.Common.{◌≡◌, ◌++◌, map, take}
use Rattle.std.specs.Vec.{vec_capacity}
use Rattle.fd_finding.specs.Searching.{spot_of}
use Rattle.fd_finding.proofs.finding.push_spots.Given as goal

abbrev pub invariant-loop-one : goal.invariant-loop-one
invariant-loop-one l = record {
  items : l.spots.items ≡ l.fn.spots.items ++ map spot_of (take l.one-index l.sought);
  room : vec_capacity l.spots ≡ vec_capacity l.fn.spots;
}
