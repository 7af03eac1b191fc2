use Rattle.fd_stops.proofs.ReclaimLaws.{wipe_found, wipe_holds}
use Rattle.fd_stops.proofs.reclaiming.wipe_until.Goals as goal

pub returns-clause-left : goal.returns-clause-left
returns-clause-left g c =
    let before = g.W.Store.Store.has c.args.objects.now.store.inner in
    let now = g.W.Store.Store.has c.wipe.new.objects.store.inner in
    record {
      finds = wipe_found _ c.args.dataset.now before now c.wipe.ensures.ran.store_is;
      table = wipe_holds c.every_purge.ensures.wiped _ c.args.dataset.now before now c.wipe.ensures.ran.store_is;
    }
