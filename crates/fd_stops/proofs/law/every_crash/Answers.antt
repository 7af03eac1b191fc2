use Rattle.fd_stops.proofs.Images.{images_left}
use Rattle.fd_stops.proofs.law.every_crash.Goals as goal

pub returns : goal.returns
returns c = images_left
