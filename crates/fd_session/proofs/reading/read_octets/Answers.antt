use Rattle.fd_session.proofs.Fronts.{read_so}
use Rattle.fd_session.proofs.reading.read_octets.Goals as goal

pub returns-in-Ok-clause-octets : goal.returns-in-Ok-clause-octets
returns-in-Ok-clause-octets g c =
    read_so (g.I.Source.left c.args.input.now) (g.I.Source.left c.read_front.new.input) c.in_ok-octets.octets.items c.in-Ok.more c.in_ok-octets.ensures.given c.in_ok-octets.ensures.whole c.in_ok-octets.ensures.within c.in-Ok.ensures.more
