use Rattle.std.proofs.Common.{All, IsOk}
use Rattle.fd_finding.specs.declared.spot.Job.{Job}
use Rattle.fd_finding.proofs.finding.fault_of.Given as goal

abbrev pub invariant-loop-job : goal.invariant-loop-job
invariant-loop-job g l = record {
  next : (goal.iterator-loop-job g).can_next l.job-iterator;
  ends : (goal.iterator-loop-job g).is_finite l.job-iterator;
  ok : All (λ (job : Job _). IsOk job.end) l.yielded;
}
