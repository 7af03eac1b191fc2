use Rattle.std.proofs.Common.{rules, arith, ◌<◌, ap, length}
use Rattle.fd_play.proofs.Staffing.{staffs_none}
use Rattle.fd_play.proofs.staff.add_archivers.Goals as goal

pub loop-i-init : goal.loop-i-init
loop-i-init g c = record {
  long = ap length c.requires.room.0;
  room = c.requires.room.1;
  course = λ b h s. staffs_none g.S.Folder.Folder.has g.S.Folder.Folder.faults b h c.args.library.now c.args.archivers.now.items c.requires.room.0 s;
}

pub add_archiver-requires-clause-sole : goal.add_archiver-requires-clause-sole
add_archiver-requires-clause-sole g c κs within =
    let s = c.requires.sole in
    let i = c.loop-i.invariant in
    let st = i.course s.0 s.1 s.2 in
    let lt : c.loop-i._i < c.args.count = search rules in
    (s.0, st.now, st.sole, omega (arith, st.given, s.3, i.long, lt, c.requires.few))

pub loop-i-preserved : goal.loop-i-preserved
loop-i-preserved g c = record {
  long = omega (arith, c.in-Ok.ensures.more, c.loop-i.invariant.long);
  room = search rules;
  course = λ b h s. c.in-Ok.ensures.ok b h (c.loop-i.invariant.course b h s);
}

pub returns-in-Err-clause-err : goal.returns-in-Err-clause-err
returns-in-Err-clause-err g c = λ b h s. c.in-Err.ensures.err b h (c.loop-i.invariant.course b h s)
