use Rattle.std.proofs.Common.{map}
use Rattle.fd_finding.specs.Spots.{place_key}
use Rattle.fd_overlay.proofs.Merging.{found_zip}
use Rattle.fd_overlay.proofs.finding.find_some.Goals as goal

pub returns-in-Ok-clause-found : goal.returns-in-Ok-clause-found
returns-in-Ok-clause-found g c = found_zip c.args.snapshot.now (map place_key c.args.places.now) _ c.in-Ok.ensures.says c.in-Ok.ensures.answer c.in-Ok.ensures.within
