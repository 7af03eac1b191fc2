use Rattle.std.proofs.Common.{ℕ, List, subst, sym}
use Rattle.fd_sections.specs.Message.{Sections}
use Rattle.fd_sheets.specs.Sheets.{Next, TookFields, standing}
use Rattle.fd_sheets.proofs.Taking.{next_open, next_starved, open_room}
use Rattle.fd_sheets.proofs.sheets.Intake.take_more.Goals as goal

pub returns-in-Ok-clause-next : goal.returns-in-Ok-clause-next
returns-in-Ok-clause-next c = λ n.
    next_open n c.args.self.now.splitter c.args.self.now.opened c.take.new.self c.args.sheets.now.items c.take.new.sheets.items c.requires.is_open
    (subst (λ (k : ℕ). TookFields k c.args.self.now.opened c.take.new.self c.args.sheets.now.items c.take.new.sheets.items) c.given-number.ensures.given c.in-Ok.ensures.took)
    (c.in-Ok.ensures.some (c.has_more.ensures.some c.if-has_more.true))

pub returns-in-Ok-clause-room : goal.returns-in-Ok-clause-room
returns-in-Ok-clause-room c = open_room c.args.self.now.splitter c.given-number.result c.args.self.now.opened c.take.new.self c.args.sheets.now.items c.take.new.sheets.items c.in-Ok.ensures.took

pub returns-in-Err-clause-next : goal.returns-in-Err-clause-next
returns-in-Err-clause-next c = λ n.
    next_starved n c.args.self.now.splitter c.args.self.now.opened c.take.new.self c.args.sheets.now.items c.take.new.sheets.items c.requires.is_open
    (subst (λ (k : ℕ). TookFields k c.args.self.now.opened c.take.new.self c.args.sheets.now.items c.take.new.sheets.items) c.given-number.ensures.given c.in-Err.ensures.took)

pub returns-in-Err-clause-room : goal.returns-in-Err-clause-room
returns-in-Err-clause-room c = open_room c.args.self.now.splitter c.given-number.result c.args.self.now.opened c.take.new.self c.args.sheets.now.items c.take.new.sheets.items c.in-Err.ensures.took

pub returns-clause-next : goal.returns-clause-next
returns-clause-next c = λ n.
    subst (λ (fs : List Sections). Next (standing c.args.self.now.splitter fs n) c.next_message.new.self.splitter c.next_message.new.self.opened c.args.sheets.now.items c.next_message.new.sheets.items c.next_message.result) (sym (c.has_more.ensures.none c.if-has_more.false)) (c.next_message.ensures.next n)
