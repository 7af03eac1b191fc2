use Rattle.fd_retrieve.proofs.ReadyLemmas.{unopened_broken}
use Rattle.fd_contents.proofs.datasets.opened_at.Goals as goal

pub returns-in-Err-clause-broken : goal.returns-in-Err-clause-broken
returns-in-Err-clause-broken g c = unopened_broken (g.S.Store.has c.args.store.now) c.args.name.now c.in-Err.fault c.unopened.result c.in-Err.ensures.broken c.unopened.ensures.is
