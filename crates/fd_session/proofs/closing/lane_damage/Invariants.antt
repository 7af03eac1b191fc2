use Rattle.std.proofs.Common.{◌≡◌, drop}
use Rattle.fd_session.specs.Endings.{lane_damage}
use Rattle.fd_session.proofs.closing.lane_damage.Given as goal

abbrev pub invariant-loop-end : goal.invariant-loop-end
invariant-loop-end g l = lane_damage l.ends ≡ lane_damage (drop l.end-index l.ends)
