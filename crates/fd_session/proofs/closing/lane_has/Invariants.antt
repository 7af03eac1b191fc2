use Rattle.std.proofs.Common.{◌≡◌, drop}
use Rattle.fd_session.specs.Endings.{lane_has}
use Rattle.fd_session.proofs.closing.lane_has.Given as goal

abbrev pub invariant-loop-end : goal.invariant-loop-end
invariant-loop-end g l = lane_has l.kind l.ends ≡ lane_has l.kind (drop l.end-index l.ends)
