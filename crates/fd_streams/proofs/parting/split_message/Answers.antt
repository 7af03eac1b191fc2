use Rattle.std.proofs.Common.{rules}
use Rattle.fd_streams.proofs.PartSteps.{parts_one, parts_none, parts_halt, rejected_halts}
use Rattle.fd_streams.proofs.parting.split_message.Goals as goal

pub returns-in-Ok-None-clause-went : goal.returns-in-Ok-None-clause-went
returns-in-Ok-None-clause-went g c =
    parts_none c.args.splitter.now c.next_frame.follows.lender-at-none (g.K.Sink.taken c.args.output.now) (rw c.in-Ok-None.field-0-is at c.in-Ok-None.ensures.answer) c.next_frame.follows.holds-at-none

pub returns-in-Ok-clause-went : goal.returns-in-Ok-clause-went
returns-in-Ok-clause-went g c =
    let m = c.in-Ok-Some in
    parts_one c.args.splitter.now c.next_frame.follows.lender-at-none m.octets.now c.in-Ok.count (g.K.Sink.taken c.args.output.now) (g.K.Sink.taken c.write_parts.new.output)
    (rw m.field-0-is at m.ensures.answer) c.next_frame.follows.holds-at-none c.in-Ok.ensures.whole c.in-Ok.ensures.few

pub returns-in-Err-write_parts-clause-halted : goal.returns-in-Err-write_parts-clause-halted
returns-in-Err-write_parts-clause-halted g c =
    let m = c.in-Ok-Some in
    parts_halt c.args.splitter.now m.octets.now _ c.in-Err-write_parts.halt (g.K.Sink.taken c.args.output.now) (g.K.Sink.taken c.write_parts.new.output)
    (rw m.field-0-is at m.ensures.answer) (search rules) c.in-Err-write_parts.ensures.halted

pub returns-in-Err-clause-halted : goal.returns-in-Err-clause-halted
returns-in-Err-clause-halted g c = rejected_halts c.args.splitter.now c.in-Err.at c.refusal_of.result (g.K.Sink.taken c.args.output.now) c.in-Err.ensures.answer c.refusal_of.ensures
