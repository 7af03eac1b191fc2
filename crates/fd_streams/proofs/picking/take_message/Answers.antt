use Rattle.std.proofs.Common.{◌∙◌, Err}
use Rattle.fd_sections.specs.Parts.{sections_of}
use Rattle.fd_streams.proofs.Steps.{took, waits, keyed, keyless_stops, refusal_stops}
use Rattle.fd_streams.proofs.picking.take_message.Goals as goal

pub returns-in-Ok-None-clause-took : goal.returns-in-Ok-None-clause-took
returns-in-Ok-None-clause-took g c =
    waits c.args.wanted.now c.args.splitter.now c.next.follows.lender-at-none c.args.last.now (rw c.in-Ok-None.field-0-is at c.in-Ok-None.ensures.answer) c.next.follows.holds-at-none

pub returns-in-Err-clause-err : goal.returns-in-Err-clause-err
returns-in-Err-clause-err g c = λ past before last more. refusal_stops c.args.wanted.now past c.args.splitter.now c.in-Err.at c.refusal_of.result before more c.in-Err.ensures.answer c.refusal_of.ensures

pub returns-in_ok-consider-in-Ok-clause-took : goal.returns-in_ok-consider-in-Ok-clause-took
returns-in_ok-consider-in-Ok-clause-took g c =
    let m = c.in-Ok-Some in
    took c.args.wanted.now c.args.splitter.now c.next.follows.lender-at-none c.args.last.now c.consider.new.self (sections_of m.message) c.bytes.result.now c.fill_key.new.key
    (rw m.field-0-is at m.ensures.answer) c.next.follows.holds-at-none
    (keyed (sections_of m.message) c.args.given.now c.fill_key.new.key c.in_ok-fill_key-in-Ok-Some.field-0 _ c.requires c.in-Ok.is c.in_ok-fill_key-in-Ok-Some.ensures)
    (c.bytes.ensures ∙ (rw m.field-0-is at m.ensures.whole)) c.in_ok-consider-in-Ok.ensures

pub returns-in-Err-2-clause-err : goal.returns-in-Err-2-clause-err
returns-in-Err-2-clause-err g c = λ past before last more.
    let m = c.in-Ok-Some in
    keyless_stops c.args.wanted.now past c.args.splitter.now (sections_of m.message) c.in-Err-2.fault c.given-number.result (rw m.field-0-is at m.ensures.answer)
    (keyed (sections_of m.message) c.args.given.now c.fill_key.new.key c.in_ok-fill_key-in-Ok-Some.field-0 (Err c.in-Err-2.fault) c.requires c.in-Err-2.is c.in_ok-fill_key-in-Ok-Some.ensures) c.given-number.ensures.given before more
