use Rattle.std.proofs.Common.{All, subst, sym}
use Rattle.fd_ahead.specs.Reading.{IsJob}
use Rattle.fd_answering.proofs.rounds.answer_all.Goals as goal

pub answer_rounds-requires-clause-located : goal.answer_rounds-requires-clause-located
answer_rounds-requires-clause-located g c κs within = record { count = c.requires.count; within = c.requires.within }

pub answer_rounds-requires-clause-jobs : goal.answer_rounds-requires-clause-jobs
answer_rounds-requires-clause-jobs g c κs within = subst (All (IsJob c.args.opened.now)) (sym c.deref_mut.ensures.value) (c.in-Ok.ensures.jobs c.args.opened.now)

pub answer_rounds-requires-clause-stock : goal.answer_rounds-requires-clause-stock
answer_rounds-requires-clause-stock g c κs within = c.new-stock.ensures c.args.opened.now
