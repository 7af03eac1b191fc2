use Rattle.std.proofs.Common.{rules, All, subst, sym}
use Rattle.std.proofs.lemmas.List.Elements.{All-push}
use Rattle.fd_ahead.specs.Reading.{IsJob}
use Rattle.fd_ahead.proofs.job.jobs_for.Goals as goal

pub loop-i-preserved : goal.loop-i-preserved
loop-i-preserved g c = record {
  long = search rules;
  room = search rules;
  jobs = λ os. subst (All (IsJob os)) (sym c.push_reserved.ensures.items) (All-push (IsJob os) c.loop-i.jobs.items c.idle.result (c.loop-i.invariant.jobs os) (c.idle.ensures os));
}
