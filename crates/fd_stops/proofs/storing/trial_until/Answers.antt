use Rattle.fd_stops.proofs.Growing.{tried}
use Rattle.fd_stops.proofs.storing.trial_until.Goals as goal

pub returns-clause-left : goal.returns-clause-left
returns-clause-left g c = tried _ _ _ c.args.workers c.args.count (g.W.Store.Store.has c.args.objects.now.store.inner) (g.W.Store.Store.has c.trial.new.objects.store.inner)
    c.trial.ensures.outlasts c.trial.ensures.ran.store_is
