use Rattle.fd_stored.specs.Causes.{BadFile, damaged_line}
use Rattle.fd_session.proofs.Telled.{damage_told}
use Rattle.fd_session.proofs.closing.tell_damage.Goals as goal

pub returns : goal.returns
returns g c = damage_told (damaged_line c.args.dataset.now (BadFile c.args.damage)) c.tell_broken.result _ _ _ _ c.tell_broken.ensures
