use Rattle.std.proofs.Common.{◌≡◌, ◌≤◌, get_or}
use Rattle.std.specs.Vec.{vec_capacity}
use Rattle.fd_finding.proofs.Jobs.{room_for}
use Rattle.fd_finding.proofs.finding.spots_of.Goals as goal

pub push_spots-requires : goal.push_spots-requires
push_spots-requires g c =
    let is = c.job-item.is in
    record {
      room = room_for c.args.jobs.now c.loop-job.job-index c.job-item.result c.loop-job.spots.items c.deref.result.now (vec_capacity c.args.spots) (vec_capacity c.loop-job.spots) c.loop-job-test.true (cc) c.deref.ensures.value c.loop-job.invariant.items c.requires.room c.loop-job.invariant.room;
    }
