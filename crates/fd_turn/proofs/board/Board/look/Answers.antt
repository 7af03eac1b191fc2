use Rattle.std.proofs.Common.{rules, false}
use Rattle.fd_turn.specs.declared.rule.Slot.TheVariants.{Value}
use Rattle.fd_turn.proofs.Carried.{carried_first}
use Rattle.fd_turn.proofs.Turns.{reads, leaves_turn, reader_right}
use Rattle.fd_turn.proofs.board.Board.look.Goals as goal

pub exchange-slot-requires : goal.exchange-slot-requires
exchange-slot-requires g c = let t = c.take_turn.ensures.taken in (search rules, (Value t.0, carried_first _ _ _ _ t.1))

pub load-requires : goal.load-requires
load-requires g c = let t = c.take_turn.ensures.taken in (search rules, search rules, reads _ _ _ _ _ _ _ _ _ _ (g.V.Handed.list t.0) (search rules) (search rules))

pub store-requires : goal.store-requires
store-requires g c =
    let t = c.take_turn.ensures.taken in
    let r = c.load.ensures.2 (g.V.Handed.list t.0) (search rules) in
    (search rules, search rules, leaves_turn _ _ _ _ _ _ _ _ _ _ c.in-Value.value (g.V.Handed.list t.0) false (search rules) (search rules) (search rules) (reader_right _ g.V.Handed.list c.load.new.seat.me.0 c.in-Value.value (g.V.Handed.list t.0) (search rules) (search rules)) (search rules))

pub store-requires-in-Err : goal.store-requires-in-Err
store-requires-in-Err g c =
    let t = c.take_turn.ensures.taken in
    (search rules, search rules, leaves_turn _ _ _ _ _ _ _ _ _ _ c.in-Value.value (g.V.Handed.list t.0) false (search rules) (search rules) (search rules) (reader_right _ g.V.Handed.list c.exchange-slot-2.new.seat.me.0 c.in-Value.value (g.V.Handed.list t.0) (search rules) (search rules)) (search rules))

pub invariant_of-pass : goal.invariant_of-pass
invariant_of-pass g c = let r = c.load.ensures.2 (g.V.Handed.list c.take_turn.ensures.taken.0) (search rules) in record { away = search rules; compared = search rules; some_parts = search rules; out = search rules }

pub returns-in-Ok-clause-ok : goal.returns-in-Ok-clause-ok
returns-in-Ok-clause-ok g c = let r = c.load.ensures.2 (g.V.Handed.list c.take_turn.ensures.taken.0) (search rules) in search rules

pub returns-in-Ok-clause-seen : goal.returns-in-Ok-clause-seen
returns-in-Ok-clause-seen g c = let r = c.load.ensures.2 (g.V.Handed.list c.take_turn.ensures.taken.0) (search rules) in search rules
