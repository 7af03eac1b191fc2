use Rattle.std.proofs.Common.{◌≡◌, vec_len}
use Rattle.fd_session.specs.Endings.{lane_faults}
use Rattle.fd_session.proofs.Noting.{IsCounting}
use Rattle.fd_session.proofs.closing.note_lane.Given as goal

abbrev pub invariant-loop-end : goal.invariant-loop-end
invariant-loop-end g l = record {
  has : g.S.Store.has l.store ≡ g.S.Store.has l.fn.store;
  out : g.S.Store.out l.store ≡ g.S.Store.out l.fn.store;
  counted : IsCounting (lane_faults l.fn.ends) (lane_faults l.left.items) (g.S.Store.faults l.fn.store) (g.S.Store.faults l.store);
}

abbrev pub decreases-loop-end : goal.decreases-loop-end
decreases-loop-end g l = vec_len l.left
