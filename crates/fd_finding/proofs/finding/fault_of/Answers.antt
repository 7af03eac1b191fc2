use Rattle.std.proofs.Common.{rules, ◌≡◌, sym, length, All, IsOk}
use Rattle.std.proofs.lemmas.Iterator.Adapters.{YieldsList-from_vec}
use Rattle.std.proofs.lemmas.Iterator.Consumers.{YieldsList-turn}
use Rattle.std.proofs.lemmas.List.Elements.{All-push}
use Rattle.fd_finding.specs.declared.spot.Job.{Job}
use Rattle.fd_finding.proofs.Jobs.{ok_of}
use Rattle.fd_finding.proofs.finding.fault_of.Goals as goal

pub returns-in-Err : goal.returns-in-Err
returns-in-Err g c =
    let t = YieldsList-turn (YieldsList-from_vec c.args.jobs.items (search rules) (search rules)) c.loop-job.yielded c.loop-job.job-iterator c.loop-job.yielded_by c.next.result c.next.new.self c.in-Some.job c.in-Some.is c.next.ensures.steps in
    (c.in-Some.job, (length c.loop-job.yielded, t.0, sym t.1), c.in-Err.is)

pub loop-job-preserved : goal.loop-job-preserved
loop-job-preserved g c = record {
  next = search rules;
  ends = search rules;
  ok = All-push (λ (job : Job _). IsOk job.end) c.loop-job.yielded c.in-Some.job c.loop-job.invariant.ok (ok_of c.in-Some.job.end c.in-Ok.field-0 c.in-Ok.is);
}
