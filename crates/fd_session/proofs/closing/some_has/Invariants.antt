use Rattle.std.proofs.Common.{◌≡◌, drop}
use Rattle.fd_session.specs.Endings.{some_has}
use Rattle.fd_session.proofs.closing.some_has.Given as goal

abbrev pub invariant-loop-lane : goal.invariant-loop-lane
invariant-loop-lane g l = some_has l.kind l.lanes ≡ some_has l.kind (drop l.lane-index l.lanes)
