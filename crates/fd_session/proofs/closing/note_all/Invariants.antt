use Rattle.std.proofs.Common.{◌≡◌, vec_len}
use Rattle.fd_session.specs.Endings.{count_faults}
use Rattle.fd_session.proofs.Noting.{IsCounting}
use Rattle.fd_session.proofs.closing.note_all.Given as goal

abbrev pub invariant-loop-lane : goal.invariant-loop-lane
invariant-loop-lane g l = record {
  has : g.S.Store.has l.store ≡ g.S.Store.has l.fn.store;
  out : g.S.Store.out l.store ≡ g.S.Store.out l.fn.store;
  counted : IsCounting (count_faults l.fn.ends) (count_faults l.left.items) (g.S.Store.faults l.fn.store) (g.S.Store.faults l.store);
}

abbrev pub decreases-loop-lane : goal.decreases-loop-lane
decreases-loop-lane g l = vec_len l.left
