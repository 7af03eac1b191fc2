use Rattle.std.proofs.Common.{rules, Ok, Err, Some, refl}
use Rattle.fd_sections.specs.Frames.{first_frame, frame_progress}
use Rattle.fd_sheets.proofs.Taking.{frame_so, next_not, next_rejected, next_taken}
use Rattle.fd_sheets.proofs.sheets.Intake.next_message.Goals as goal

pub returns-in-Ok-clause-next : goal.returns-in-Ok-clause-next
returns-in-Ok-clause-next c = λ n.
    let m = c.in-Ok-Some in
    next_taken n c.args.self.now.splitter c.next_frame.follows.lender-at-none m.octets.now _ c.take_message.new.opened c.args.sheets.now.items c.take_message.new.sheets.items
    (frame_so c.args.self.now.splitter c.next_frame.follows.lender-at-none (Ok (Some m.octets.now)) (rw m.field-0-is at m.ensures.answer) c.next_frame.follows.holds-at-none) (search rules) c.in-Ok.ensures.took

pub returns-in-Err-take_message-clause-next : goal.returns-in-Err-take_message-clause-next
returns-in-Err-take_message-clause-next c = λ n.
    let m = c.in-Ok-Some in
    next_not n c.args.self.now.splitter c.next_frame.follows.lender-at-none m.octets.now _ c.take_message.new.opened c.args.sheets.now.items c.take_message.new.sheets.items c.in-Err-take_message.end
    (frame_so c.args.self.now.splitter c.next_frame.follows.lender-at-none (Ok (Some m.octets.now)) (rw m.field-0-is at m.ensures.answer) c.next_frame.follows.holds-at-none) (search rules) c.in-Err-take_message.ensures.took

pub returns-in-Err-clause-next : goal.returns-in-Err-clause-next
returns-in-Err-clause-next c = λ n.
    let q = frame_progress c.args.self.now.splitter (first_frame c.args.self.now.splitter.rest) in
    next_rejected n c.args.self.now.splitter q c.in-Err.at c.args.self.now.opened c.args.sheets.now.items (frame_so c.args.self.now.splitter q (Err c.in-Err.at) c.in-Err.ensures.answer refl)
