use Rattle.std.proofs.Common.{◌≡◌, drop}
use Rattle.fd_session.specs.Endings.{first_damage}
use Rattle.fd_session.proofs.closing.first_damage.Given as goal

abbrev pub invariant-loop-lane : goal.invariant-loop-lane
invariant-loop-lane g l = first_damage l.lanes ≡ first_damage (drop l.lane-index l.lanes)
