use Rattle.std.proofs.Common.{rules, ◌≡◌, ◌++◌, All, List, Err, length, take, drop, sym, subst}
use Rattle.fd_sheets.specs.declared.sheets.Sheet.{Sheet}
use Rattle.fd_sheets.specs.declared.sheets.Unsplit.TheVariants as ends
use Rattle.fd_sheets.specs.Parts.{TookPlaced}
use Rattle.fd_sheets.specs.Sheets.{IsReadable, standing}
use Rattle.fd_sheets.proofs.ByParts.{HasPart, looked_all, none_before, part_first, part_last, part_lost, part_next, part_room}
use Rattle.fd_sheets.proofs.Placing.{staged_readable}
use Rattle.fd_sheets.proofs.parts.Search.take_placed.Goals as goal

pub parts-init : goal.parts-init
parts-init g c = part_first c.args.self.now.schema.now c.args.self.now.given.now c.args.intake.now.splitter c.args.intake.now.opened c.take_part-taken.new.self.splitter c.take_part-taken.new.self.opened c.args.done.now.items c.take_part-taken.new.part.items c.take_part-taken.result c.requires.none c.take_part-taken.ensures

pub take_beside-end-requires-clause-readable : goal.take_beside-end-requires-clause-readable
take_beside-end-requires-clause-readable g c κs within =
    let x = c.parts.invariant.behind 0 in
    subst (All IsReadable) (sym c.deref_mut.ensures.value) (staged_readable x.turn x.middle c.parts.part.items x.staged)

pub returns-in-Err-clause-took : goal.returns-in-Err-clause-took
returns-in-Err-clause-took g c = λ n.
    subst (λ (xs : List Sheet). TookPlaced c.args.self.now.schema.now c.args.self.now.given.now (standing c.args.intake.now.splitter c.args.intake.now.opened n) c.take_beside-end.new.intake.splitter c.take_beside-end.new.intake.opened xs (Err ends.NoMemory)) (sym c.in-Err.ensures.items)
    (part_lost c.args.self.now.schema.now c.args.self.now.given.now c.args.intake.now.splitter c.args.intake.now.opened c.parts.intake.splitter c.parts.intake.opened c.parts.done.items c.parts.part.items c.take_beside-end.new.intake.splitter c.take_beside-end.new.intake.opened c.parts.taken c.parts.invariant n)

pub parts-preserved : goal.parts-preserved
parts-preserved g c =
    let ss = c.parts.part in
    let ts = c.take_beside-end.new.part in
    let is : ss.len ≡ length ss.items = search rules in
    let placed = looked_all c.args.self.now.schema.now c.args.self.now.given.now ss.items c.deref_mut.result.now ts ss.len is c.deref_mut.ensures.value c.take_beside-end.ensures.looked in
    part_next c.args.self.now.schema.now c.args.self.now.given.now c.args.intake.now.splitter c.args.intake.now.opened c.parts.intake.splitter c.parts.intake.opened c.parts.done.items ss.items (take ss.len (ts ++ drop (length ts) ss.items)) c.append.new.self.items placed c.in-Ok.ensures.items
    c.take_beside-end.new.intake.splitter c.take_beside-end.new.intake.opened c.take_beside-end.new.next.items c.take_beside-end.result
    (subst (HasPart c.args.self.now.schema.now c.args.self.now.given.now c.args.intake.now.splitter c.args.intake.now.opened c.parts.intake.splitter c.parts.intake.opened c.parts.done.items ss.items) (c.are_more.ensures c.parts-test.true) c.parts.invariant) c.take_beside-end.ensures.took

pub look_up_all-requires-clause-readable : goal.look_up_all-requires-clause-readable
look_up_all-requires-clause-readable g c κs within =
    let x = c.parts.invariant.behind 0 in
    subst (All IsReadable) (sym c.deref_mut-2.ensures.value) (staged_readable x.turn x.middle c.parts.part.items x.staged)

pub returns-then-is_empty-clause-took : goal.returns-then-is_empty-clause-took
returns-then-is_empty-clause-took g c = λ n.
    let ss = c.parts.part in
    let ts = c.look_up_all.new.sheets in
    let is : ss.len ≡ length ss.items = search rules in
    let none : length c.parts.done.items ≡ 0 = search rules in
    let written = take ss.len (ts ++ drop (length ts) ss.items) in
    let placed = looked_all c.args.self.now.schema.now c.args.self.now.given.now ss.items c.deref_mut-2.result.now ts ss.len is c.deref_mut-2.ensures.value c.look_up_all.ensures in
    part_last c.args.self.now.schema.now c.args.self.now.given.now c.args.intake.now.splitter c.args.intake.now.opened c.parts.intake.splitter c.parts.intake.opened c.parts.done.items ss.items written written placed (none_before c.parts.done.items written none) c.parts.taken c.parts.invariant n

pub returns-then-is_empty-clause-room : goal.returns-then-is_empty-clause-room
returns-then-is_empty-clause-room g c =
    let ss = c.parts.part in
    let ts = c.look_up_all.new.sheets in
    let is : ss.len ≡ length ss.items = search rules in
    let none : length c.parts.done.items ≡ 0 = search rules in
    let written = take ss.len (ts ++ drop (length ts) ss.items) in
    let placed = looked_all c.args.self.now.schema.now c.args.self.now.given.now ss.items c.deref_mut-2.result.now ts ss.len is c.deref_mut-2.ensures.value c.look_up_all.ensures in
    part_room c.args.self.now.schema.now c.args.self.now.given.now c.args.intake.now.splitter c.args.intake.now.opened c.parts.intake.splitter c.parts.intake.opened c.parts.done.items ss.items written written placed (none_before c.parts.done.items written none) c.parts.taken c.args.done.now.items c.parts.invariant

pub returns-in-Ok-append-clause-took : goal.returns-in-Ok-append-clause-took
returns-in-Ok-append-clause-took g c = λ n.
    let ss = c.parts.part in
    let ts = c.look_up_all.new.sheets in
    let is : ss.len ≡ length ss.items = search rules in
    let placed = looked_all c.args.self.now.schema.now c.args.self.now.given.now ss.items c.deref_mut-2.result.now ts ss.len is c.deref_mut-2.ensures.value c.look_up_all.ensures in
    part_last c.args.self.now.schema.now c.args.self.now.given.now c.args.intake.now.splitter c.args.intake.now.opened c.parts.intake.splitter c.parts.intake.opened c.parts.done.items ss.items (take ss.len (ts ++ drop (length ts) ss.items)) c.append-2.new.self.items placed c.in-Ok-append.ensures.items c.parts.taken c.parts.invariant n

pub returns-clause-took : goal.returns-clause-took
returns-clause-took g c = λ n.
    subst (λ (xs : List Sheet). TookPlaced c.args.self.now.schema.now c.args.self.now.given.now (standing c.args.intake.now.splitter c.args.intake.now.opened n) c.parts.intake.splitter c.parts.intake.opened xs (Err ends.NoMemory)) (sym c.in-Err-append.ensures.items)
    (part_lost c.args.self.now.schema.now c.args.self.now.given.now c.args.intake.now.splitter c.args.intake.now.opened c.parts.intake.splitter c.parts.intake.opened c.parts.done.items c.parts.part.items c.parts.intake.splitter c.parts.intake.opened c.parts.taken c.parts.invariant n)
