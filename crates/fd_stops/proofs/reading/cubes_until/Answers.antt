use Rattle.fd_stops.proofs.ReadLemmas.{before}
use Rattle.fd_stops.proofs.reading.cubes_until.Goals as goal

pub returns-clause-before : goal.returns-clause-before
returns-clause-before g c = before (g.W.Store.Store.has c.args.objects.now.store.inner) (g.W.Store.Store.has c.cubes.new.objects.store.inner) c.cubes.ensures.ran.looks
