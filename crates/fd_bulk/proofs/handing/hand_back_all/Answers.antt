use Rattle.std.proofs.Common.{rules, ◌∙◌, ◌<◌, refl, length, get_or, take}
use Rattle.fd_turn.specs.Passes.{view}
use Rattle.fd_bulk.specs.Ending.{IsShorter, column}
use Rattle.fd_bulk.proofs.Giving.{give_one, hand_first, hand_last, hand_next}
use Rattle.fd_bulk.proofs.Turns.{get_place, turns_begin, turns_end, turns_next, turns_on}
use Rattle.fd_bulk.proofs.handing.hand_back_all.Goals as goal

pub loop-w-init : goal.loop-w-init
loop-w-init g c = record {
  sound = c.requires.sound;
  own = refl;
  jobs = turns_begin (IsShorter c.args.number) c.args.jobs.now;
  handed = hand_first g.S.Folder.Folder.has g.S.Folder.Folder.faults g.S.Folder.Shelf.Shelf.kept c.args.number c.args.library.now c.requires.can.held (view c.args.pass.now) c.args.jobs.now c.requires.can.held_at;
}

pub hand_back-requires-clause-can : goal.hand_back-requires-clause-can
hand_back-requires-clause-can g c κs within =
    let js = c.args.jobs.now in
    let inv = c.loop-w.invariant in
    let lt : c.loop-w.w < length c.loop-w.jobs = search rules in
    let j = get_or c.loop-w.jobs c.loop-w.w c.index-jobs-w.result in
    let at = get_place c.loop-w.jobs c.loop-w.w c.index-jobs-w.result lt in
    let there = turns_next (IsShorter c.args.number) js c.loop-w.jobs c.loop-w.w j inv.jobs at in
    give_one g.S.Folder.Folder.has g.S.Folder.Folder.faults g.S.Folder.Shelf.Shelf.kept c.args.number c.args.library.now c.loop-w.library c.args.pass.now c.loop-w.pass js (column c.args.number (take c.loop-w.w js)) c.loop-w.w j c.requires.can inv.handed inv.own there

pub loop-w-preserved : goal.loop-w-preserved
loop-w-preserved g c =
    let js = c.args.jobs.now in
    let inv = c.loop-w.invariant in
    let lt : c.loop-w.w < length c.loop-w.jobs = search rules in
    let j = get_or c.loop-w.jobs c.loop-w.w c.index-jobs-w.result in
    let at = get_place c.loop-w.jobs c.loop-w.w c.index-jobs-w.result lt in
    let there = turns_next (IsShorter c.args.number) js c.loop-w.jobs c.loop-w.w j inv.jobs at in
    let e = c.hand_back.ensures in
    record {
      sound = e.sound;
      own = e.own ∙ inv.own;
      jobs = turns_on (IsShorter c.args.number) js c.loop-w.jobs c.loop-w.w j c.hand_back.new.job inv.jobs at e.shorter;
      handed = hand_next g.S.Folder.Folder.has g.S.Folder.Folder.faults g.S.Folder.Shelf.Shelf.kept c.args.number c.args.library.now c.loop-w.library c.hand_back.new.library js c.loop-w.w j (view c.args.pass.now) (view c.loop-w.pass) (view c.hand_back.new.pass) there inv.handed e.hands;
    }

pub returns-clause-shorter : goal.returns-clause-shorter
returns-clause-shorter g c = turns_end (IsShorter c.args.number) c.args.jobs.now c.loop-w.jobs c.loop-w.w c.loop-w-test.false c.loop-w.invariant.jobs

pub returns-clause-hands : goal.returns-clause-hands
returns-clause-hands g c = hand_last g.S.Folder.Folder.has g.S.Folder.Folder.faults g.S.Folder.Shelf.Shelf.kept c.args.number c.args.library.now c.loop-w.library c.args.jobs.now c.loop-w.w (view c.args.pass.now) (view c.loop-w.pass) c.loop-w-test.false c.loop-w.invariant.handed
