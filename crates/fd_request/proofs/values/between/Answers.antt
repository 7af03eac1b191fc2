use Rattle.std.proofs.Common.{sym}
use Rattle.fd_request.specs.Seen.{seen_end}
use Rattle.fd_request.proofs.RangeLaws.{distance_fits}
use Rattle.fd_request.proofs.values.between.Goals as goal

pub stepped-requires : goal.stepped-requires
stepped-requires c = record {
  step = c.in-Some-step_of.ensures.some;
  fits = distance_fits (seen_end c.in-Some.first) (seen_end c.in-Some-2.last) c.in-Some-distance.far (sym c.in-Some-distance.ensures) (rw c.in-Some.is at c.in_ok-first.ensures.fits) (rw c.in-Some-2.is at c.in_ok-last.ensures.fits);
}
