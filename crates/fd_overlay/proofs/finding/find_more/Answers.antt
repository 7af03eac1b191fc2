use Rattle.std.proofs.Common.{map, ap, ◌∙◌}
use Rattle.fd_finding.specs.Spots.{place_key}
use Rattle.fd_overlay.proofs.Merging.{damaged_for_all}
use Rattle.fd_overlay.proofs.finding.find_more.Goals as goal

pub returns-in-Err-clause-damaged : goal.returns-in-Err-clause-damaged
returns-in-Err-clause-damaged g c =
    damaged_for_all c.in-Err.fault c.args.snapshot.now c.args.layer (map place_key c.args.places.now) (map place_key c.deref.result.now) c.args.spots.now (ap (map place_key) c.deref.ensures.value ∙ c.in-Ok.ensures) c.in-Err.ensures.damaged
