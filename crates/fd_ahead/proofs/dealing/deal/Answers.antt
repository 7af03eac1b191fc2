use Rattle.std.proofs.Common.{arith, ◌∙◌, ◌<◌, length}
use Rattle.std.proofs.lemmas.List.{length-set}
use Rattle.std.proofs.lemmas.List.Elements.{All-set}
use Rattle.fd_ahead.specs.Reading.{IsJob}
use Rattle.fd_ahead.proofs.dealing.deal.Goals as goal

pub loop-job-preserved : goal.loop-job-preserved
loop-job-preserved g c = record {
  long = length-set c.loop-job.jobs c.loop-job.job-index c.fill_job-next.new.job ∙ c.loop-job.invariant.long;
  up = omega (arith, c.loop-job.invariant.up, c.fill_job-next.ensures.up);
  to = c.fill_job-next.ensures.to;
  jobs = λ os are all.
      let lt : c.loop-job.job-index < length c.loop-job.jobs = omega (arith, c.loop-job-test.true) in
      All-set (IsJob os) c.loop-job.jobs c.loop-job.job-index c.fill_job-next.new.job
      (c.fill_job-next.ensures.job os are (c.loop-job.invariant.jobs os are all c.loop-job.job-index _ lt))
      (c.loop-job.invariant.jobs os are all);
}
