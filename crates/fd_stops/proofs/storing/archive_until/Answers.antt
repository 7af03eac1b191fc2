use Rattle.fd_stops.proofs.Growing.{archived}
use Rattle.fd_stops.proofs.storing.archive_until.Goals as goal

pub returns-clause-left : goal.returns-clause-left
returns-clause-left g c = archived _ _ _ c.args.workers c.args.given.now (g.W.Input.Source.left c.args.objects.now.input) (g.W.Input.Source.left c.archive.new.objects.input) (g.W.Store.Store.has c.args.objects.now.store.inner) (g.W.Store.Store.has c.archive.new.objects.store.inner)
    c.archive.ensures.outlasts c.archive.ensures.ran.store_is
