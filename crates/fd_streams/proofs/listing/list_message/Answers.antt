use Rattle.fd_sections.specs.Parts.{sections_of}
use Rattle.fd_streams.proofs.ListingSteps.{listed_one, listed_none, message_halts, refusal_halts}
use Rattle.fd_streams.proofs.listing.list_message.Goals as goal

pub returns-in-Ok-None-clause-went : goal.returns-in-Ok-None-clause-went
returns-in-Ok-None-clause-went g c =
    listed_none c.args.listing c.args.splitter.now c.next.follows.lender-at-none (g.K.Sink.taken c.args.output.now) (rw c.in-Ok-None.field-0-is at c.in-Ok-None.ensures.answer) c.next.follows.holds-at-none

pub returns-in-Ok-clause-went : goal.returns-in-Ok-clause-went
returns-in-Ok-clause-went g c =
    let m = c.in-Ok-Some in
    listed_one c.args.listing c.args.splitter.now c.next.follows.lender-at-none (sections_of m.message) c.given-number.result (g.K.Sink.taken c.args.output.now) (g.K.Sink.taken c.write_message.new.output)
    (rw m.field-0-is at m.ensures.answer) c.next.follows.holds-at-none c.given-number.ensures.given c.in-Ok.ensures.whole

pub returns-in-Err-write_message-clause-halted : goal.returns-in-Err-write_message-clause-halted
returns-in-Err-write_message-clause-halted g c =
    let m = c.in-Ok-Some in
    message_halts c.args.listing c.args.splitter.now (sections_of m.message) c.given-number.result c.in-Err-write_message.halt (g.K.Sink.taken c.args.output.now) (g.K.Sink.taken c.write_message.new.output)
    (rw m.field-0-is at m.ensures.answer) c.given-number.ensures.given c.in-Err-write_message.ensures.halted

pub returns-in-Err-clause-halted : goal.returns-in-Err-clause-halted
returns-in-Err-clause-halted g c = λ past more. refusal_halts c.args.listing past c.args.splitter.now c.in-Err.at c.refusal_of.result (g.K.Sink.taken c.args.output.now) more c.in-Err.ensures.answer c.refusal_of.ensures
