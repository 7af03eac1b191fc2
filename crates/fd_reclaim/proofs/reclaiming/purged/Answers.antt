use Rattle.fd_outcome.specs.Reclaiming.{PurgeUnderWay}
use Rattle.fd_purge.specs.Purging.{IsLeftByPurge}
use Rattle.fd_reclaim.proofs.Halting.{halt_leaves}
use Rattle.fd_reclaim.proofs.Leaving.{left_both}
use Rattle.fd_reclaim.proofs.reclaiming.purged.Goals as goal

pub returns-in-Err-purge_in-clause-left : goal.returns-in-Err-purge_in-clause-left
returns-in-Err-purge_in-clause-left g c =
    let dataset = c.args.dataset.now in
    let before = g.S.Store.has c.args.store.now in
    let mid = g.S.Store.has c.ruled.new.store in
    let now = g.S.Store.has c.purge_in.new.store in
    halt_leaves dataset (PurgeUnderWay dataset) before mid now c.in-Err-purge_in.fault c.of_fault.result c.ruled.ensures.has c.of_fault.ensures c.in-Err-purge_in.ensures.others
    (left_both dataset (λ v. IsLeftByPurge dataset v) mid now c.in-Err-purge_in.ensures.refused c.in-Err-purge_in.ensures.images)
