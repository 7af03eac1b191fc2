use Rattle.std.proofs.Common.{subst, sym}
use Rattle.fd_ahead.specs.Places.{Keeps}
use Rattle.fd_ahead.proofs.Placing.{keeps_those, those_of}
use Rattle.fd_ahead.proofs.segments.OpenSegments.copy.Goals as goal

pub copy_at-answer-requires-clause-those : goal.copy_at-answer-requires-clause-those
copy_at-answer-requires-clause-those g c κs within = c.in-Ok.ensures.those c.snapshot_of-snapshot.result.now (those_of c.args.self.now c.args.opened.now c.args.located c.snapshot_of-snapshot.result.now c.requires.within c.requires.keeps c.snapshot_of-snapshot.ensures)

pub returns-clause-keeps : goal.returns-clause-keeps
returns-clause-keeps g c = subst (Keeps c.args.opened.now) (sym c.keep.ensures) (keeps_those c.args.opened.now c.args.located c.snapshot_of-snapshot.result.now c.copy_at-answer.new.lenses c.snapshot_of-snapshot.ensures c.copy_at-answer.ensures.those)
