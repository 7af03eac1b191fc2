use Rattle.std.proofs.Common.{inr}
use Rattle.fd_retriever.proofs.Keeping.{kept_again, less_those, still_those, those_at}
use Rattle.fd_retriever.proofs.bytes_at.copy_at.Goals as goal

pub opened-requires-clause-those : goal.opened-requires-clause-those
opened-requires-clause-those g c κs within = those_at c.args.lenses.now c.args.snapshot.now c.args.spot.number c.segment-segment.result.now c.requires.those (c.requires.number.0, c.segment-segment.ensures)

pub returns-in-Err-Fault-clause-those : goal.returns-in-Err-Fault-clause-those
returns-in-Err-Fault-clause-those g c = less_those c.args.lenses.now c.opened.new.lenses c.args.snapshot.now c.requires.those c.in-Err-Fault.ensures.kept

pub returns-in-Err-Damaged-clause-those : goal.returns-in-Err-Damaged-clause-those
returns-in-Err-Damaged-clause-those g c = less_those c.args.lenses.now c.opened.new.lenses c.args.snapshot.now c.requires.those c.in-Err-Damaged.ensures.kept

pub returns-in-Err-NoMemory-clause-those : goal.returns-in-Err-NoMemory-clause-those
returns-in-Err-NoMemory-clause-those g c = less_those c.args.lenses.now c.opened.new.lenses c.args.snapshot.now c.requires.those c.in-Err-NoMemory.ensures.kept

pub returns-clause-those : goal.returns-clause-those
returns-clause-those g c =
    still_those c.args.lenses.now c.keep.new.self c.args.snapshot.now c.args.spot.number c.segment-segment.result.now c.requires.those (c.requires.number.0, c.segment-segment.ensures)
    (kept_again c.args.lenses.now c.opened.new.lenses c.keep.new.self c.args.spot.number c.copy_checked-answer.new.lens.files c.in-Ok.lens.files c.segment-segment.result.now.files c.copy_checked-answer.ensures.files (inr c.in-Ok.ensures.files) c.in-Ok.ensures.kept c.keep.ensures)
