use Rattle.std.proofs.Common.{◌≡◌, map, take, length, All, None}
use Rattle.std.specs.Vec.{vec_capacity}
use Rattle.fd_finding.specs.declared.spot.Sought.{Sought}
use Rattle.fd_finding.specs.Spots.{place_key}
use Rattle.fd_finding.specs.Searching.{key_of}
use Rattle.fd_finding.proofs.dealing.job_of.Given as goal

abbrev pub invariant-loop-place : goal.invariant-loop-place
invariant-loop-place g l = record {
  long : length l.sought.items ≡ l.place-index;
  room : vec_capacity l.sought ≡ length l.places;
  keys : map key_of l.sought.items ≡ map place_key (take l.place-index l.places);
  fresh : All (λ (one : Sought). one.spot ≡ None) l.sought.items;
}
