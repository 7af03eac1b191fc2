use Rattle.std.proofs.Common.{All, vec_len}
use Rattle.fd_lanes.specs.Jobs.{IsRoom}
use Rattle.fd_lanes.proofs.crew.close_rooms.Given as goal

abbrev pub invariant-loop-room : goal.invariant-loop-room
invariant-loop-room g l = All IsRoom l.rooms.items

abbrev pub decreases-loop-room : goal.decreases-loop-room
decreases-loop-room g l = vec_len l.rooms
