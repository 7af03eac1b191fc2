use Rattle.fd_stops.proofs.CreatedLemmas.{created}
use Rattle.fd_stops.proofs.creating.create_until.Goals as goal

pub returns-clause-left : goal.returns-clause-left
returns-clause-left g c = created (g.W.Input.Source.left c.args.objects.now.input) (g.W.Store.Store.has c.args.objects.now.store.inner) (g.W.Store.Store.has c.create.new.objects.store.inner) c.create.ensures.kept
