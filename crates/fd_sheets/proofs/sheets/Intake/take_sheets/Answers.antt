use Rattle.std.proofs.Common.{◌∙◌, arith, refl}
use Rattle.fd_sheets.proofs.Taking.{shrinks_next, staged_start, took_full, took_next, took_none, took_not}
use Rattle.fd_sheets.proofs.sheets.Intake.take_sheets.Goals as goal

pub fields-init : goal.fields-init
fields-init c = record { staged = staged_start c.args.self.now.splitter c.args.self.now.opened _ c.requires.none; room = omega arith; is_open = c.requires.is_open; fed = refl }

pub returns-in-Err-clause-took : goal.returns-in-Err-clause-took
returns-in-Err-clause-took c = λ n. took_not c.args.self.now.splitter c.fields.self.splitter c.take_more.new.self.splitter c.args.self.now.opened c.fields.self.opened c.take_more.new.self.opened c.fields.sheets.items c.take_more.new.sheets.items c.fields.invariant.staged n c.in-Err.end c.in-Err.ensures.next

pub returns-in-Ok-false-clause-took : goal.returns-in-Ok-false-clause-took
returns-in-Ok-false-clause-took c = λ n. took_none c.args.self.now.splitter c.fields.self.splitter c.take_more.new.self.splitter c.args.self.now.opened c.fields.self.opened c.take_more.new.self.opened c.fields.sheets.items c.take_more.new.sheets.items c.fields.invariant.staged n (rw c.in-Ok-false.field-0-test at c.in-Ok-false.ensures.next)

pub returns-then-is_part-clause-took : goal.returns-then-is_part-clause-took
returns-then-is_part-clause-took c = λ n. took_full c.args.self.now.splitter c.fields.self.splitter c.take_more.new.self.splitter c.args.self.now.opened c.fields.self.opened c.take_more.new.self.opened c.fields.sheets.items c.take_more.new.sheets.items c.fields.invariant.staged n (rw c.in-Ok-true.field-0-test at c.in-Ok-true.ensures.next)

pub fields-smaller : goal.fields-smaller
fields-smaller c = shrinks_next c.fields.self.splitter c.take_more.new.self.splitter c.fields.self.opened c.take_more.new.self.opened c.fields.sheets.items c.take_more.new.sheets.items ((rw c.in-Ok-true.field-0-test at c.in-Ok-true.ensures.next) 0) c.take_more.ensures.room

pub fields-preserved : goal.fields-preserved
fields-preserved c =
    let i = c.fields.invariant in
    let before = i.room in
    let room = c.take_more.ensures.room in
    record {
      staged = took_next c.args.self.now.splitter c.fields.self.splitter c.take_more.new.self.splitter c.args.self.now.opened c.fields.self.opened c.take_more.new.self.opened c.fields.sheets.items c.take_more.new.sheets.items i.staged (rw c.in-Ok-true.field-0-test at c.in-Ok-true.ensures.next);
      room = omega (arith, before, room);
      is_open = c.take_more.ensures.is_open;
      fed = c.take_more.ensures.fed ∙ i.fed;
    }
