use Rattle.std.proofs.Common.{◌≡◌, List, length, All}
use Rattle.std.specs.Vec.{vec_capacity}
use Rattle.fd_ahead.specs.Places.{Open}
use Rattle.fd_ahead.specs.Reading.{IsJob}
use Rattle.fd_ahead.proofs.job.jobs_for.Given as goal

abbrev pub invariant-loop-i : goal.invariant-loop-i
invariant-loop-i g l = record {
  long : length l.jobs.items ≡ l._i;
  room : vec_capacity l.jobs ≡ l.workers;
  jobs : (os : List Open) → All (IsJob os) l.jobs.items;
}
