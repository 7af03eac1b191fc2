use Rattle.std.proofs.Common.{subst, sym}
use Rattle.fd_ahead.specs.Places.{Keeps}
use Rattle.fd_ahead.proofs.Placing.{keeps_those, those_of}
use Rattle.fd_ahead.proofs.segments.OpenSegments.read.Goals as goal

pub read_at-answer-requires-clause-those : goal.read_at-answer-requires-clause-those
read_at-answer-requires-clause-those g c κs within = c.in-Ok.ensures.those c.snapshot_of-snapshot.result.now (those_of c.args.self.now c.args.opened.now c.args.located c.snapshot_of-snapshot.result.now c.requires.within c.requires.keeps c.snapshot_of-snapshot.ensures)

pub returns-clause-keeps : goal.returns-clause-keeps
returns-clause-keeps g c = subst (Keeps c.args.opened.now) (sym c.keep.ensures) (keeps_those c.args.opened.now c.args.located c.snapshot_of-snapshot.result.now c.read_at-answer.new.lenses c.snapshot_of-snapshot.ensures c.read_at-answer.ensures.those)
