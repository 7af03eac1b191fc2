use Rattle.std.proofs.Common.{◌≡◌, ◌++◌, [], map, length, All}
use Rattle.std.specs.Vec.{vec_capacity}
use Rattle.fd_finding.specs.Spots.{place_key}
use Rattle.fd_finding.specs.Searching.{IsFresh, all_keys}
use Rattle.fd_finding.proofs.dealing.deal.Given as goal

abbrev pub invariant-loop-i : goal.invariant-loop-i
invariant-loop-i g l = record {
  long : length l.jobs.items ≡ l.i;
  room : vec_capacity l.jobs ≡ l.workers;
  keys : all_keys l.jobs.items ++ map place_key l.rest ≡ map place_key l.places;
  fresh : All IsFresh l.jobs.items;
  none : l.i ≡ l.workers → l.rest ≡ [];
}
