use Rattle.std.proofs.Common.{rules, ◌≡◌, ap, length, subst}
use Rattle.std.specs.Option.{IfSome}
use Rattle.std.proofs.lemmas.List.Elements.{All-pop}
use Rattle.fd_lanes.specs.Jobs.{IsRoom}
use Rattle.fd_lanes.proofs.crew.close_rooms.Goals as goal

pub destroy_empty-requires : goal.destroy_empty-requires
destroy_empty-requires g c =
    let popped = All-pop IsRoom c.loop-room.rooms.items c.pop.new.self.items c.pop.result c.pop.ensures.items c.loop-room.invariant in
    let room : IsRoom c.in-Some.room = subst (λ o. IfSome o IsRoom) c.in-Some.is popped.1 in
    let none : length c.in-Some.room.ends.items ≡ 0 = ap length room.room.empty in
    search rules

pub loop-room-preserved : goal.loop-room-preserved
loop-room-preserved g c = (All-pop IsRoom c.loop-room.rooms.items c.pop.new.self.items c.pop.result c.pop.ensures.items c.loop-room.invariant).0
