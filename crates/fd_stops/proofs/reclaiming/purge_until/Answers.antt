use Rattle.fd_stops.proofs.ReclaimLaws.{purge_found, purge_holds}
use Rattle.fd_stops.proofs.reclaiming.purge_until.Goals as goal

pub returns-clause-left : goal.returns-clause-left
returns-clause-left g c =
    let before = g.W.Store.Store.has c.args.objects.now.store.inner in
    let now = g.W.Store.Store.has c.purge.new.objects.store.inner in
    record {
      finds = purge_found _ c.args.dataset.now before now c.purge.ensures.ran.store_is;
      table = purge_holds c.every_purge.ensures.images _ c.args.dataset.now before now c.purge.ensures.ran.store_is;
    }
