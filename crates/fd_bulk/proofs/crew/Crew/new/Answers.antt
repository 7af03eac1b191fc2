use Rattle.std.proofs.Common.{refl}
use Rattle.fd_bulk.proofs.Waiting.{met_none_push}
use Rattle.fd_bulk.proofs.crew.Crew.new.Goals as goal

pub loop-worker-preserved : goal.loop-worker-preserved
loop-worker-preserved g c =
    let inv = c.loop-worker.invariant in
    let r = met_none_push c.loop-worker.jobs.items c.push.new.self.items _ c.loop-worker._worker c.in_ok-push.ensures.items c.new.ensures.items refl inv.long inv.none in
    record { long = r.0; none = r.1 }
