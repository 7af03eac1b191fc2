use Rattle.std.proofs.Common.{◌≡◌, take}
use Rattle.std.specs.Vec.{vec_capacity}
use Rattle.fd_finding.specs.Searching.{all_spots}
use Rattle.fd_finding.proofs.finding.spots_of.Given as goal

abbrev pub invariant-loop-job : goal.invariant-loop-job
invariant-loop-job g l = record {
  items : l.spots.items ≡ all_spots (take l.job-index l.jobs);
  room : vec_capacity l.spots ≡ vec_capacity l.fn.spots;
}
