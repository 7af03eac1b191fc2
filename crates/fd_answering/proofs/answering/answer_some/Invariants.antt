use Rattle.std.proofs.Common.{◌≤◌, ◌-◌, Ok}
use Rattle.fd_request.specs.Expansion.{expand}
use Rattle.fd_ahead.specs.Reading.{IsStock}
use Rattle.fd_outcome.specs.Objects.{object}
use Rattle.fd_answering.specs.Rounds.{IsRound}
use Rattle.fd_answering.proofs.answering.answer_some.Given as goal

abbrev pub invariant-steps : goal.invariant-steps
invariant-steps g l = record {
  round : IsRound {F = g.row.F.Denot} {X = g.row.X.Denot} l.opened (expand l.request) l.located l.from l.done l.fn.found
      (object (g.K.Sink.taken l.fn.output) (g.K.Sink.taken l.output) (g.K.Sink.faults l.fn.output) (g.K.Sink.faults l.output))
      (object (g.E.Sink.taken l.fn.report) (g.E.Sink.taken l.report) (g.E.Sink.faults l.fn.report) (g.E.Sink.faults l.report))
      (Ok l.found);
  stock : IsStock l.opened l.stock;
  to : l.done ≤ l.to;
}

abbrev pub decreases-steps : goal.decreases-steps
decreases-steps g l = l.to - l.done
