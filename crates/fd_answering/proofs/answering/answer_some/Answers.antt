use Rattle.std.proofs.Common.{◌≡◌, Ok, arith, subst}
use Rattle.fd_request.specs.Expansion.{expand}
use Rattle.fd_outcome.specs.Objects.{object}
use Rattle.fd_answering.specs.Rounds.{IsRound}
use Rattle.fd_answering.proofs.RoundLemmas.{round_none, rounds_both, rounds_halted}
use Rattle.fd_answering.proofs.answering.answer_some.Goals as goal

pub steps-init : goal.steps-init
steps-init g c = record {
  round = round_none {F = g.row.F.Denot} {X = g.row.X.Denot} c.args.opened.now (expand c.args.request.now) c.args.located.now c.args.from c.args.found _ _ _ _ c.requires.range.2;
  stock = c.requires.stock;
  to = c.requires.range.0;
}

pub steps-preserved : goal.steps-preserved
steps-preserved g c =
    let step = c.in-Ok.ensures.step in
    record {
      round = rounds_both {F = g.row.F.Denot} {X = g.row.X.Denot} c.args.opened.now (expand c.args.request.now) c.args.located.now c.args.from c.steps.done c.in-Ok.next c.args.found c.steps.found _ _ _ _ _ _ _ _ _ _ _ _ c.steps.invariant.round c.in-Ok.more step.2;
      stock = c.in-Ok.ensures.stock;
      to = step.1;
    }

pub returns-in-Err-clause-round : goal.returns-in-Err-clause-round
returns-in-Err-clause-round g c =
    rounds_halted {F = g.row.F.Denot} {X = g.row.X.Denot} c.args.opened.now (expand c.args.request.now) c.args.located.now c.args.from c.steps.done c.args.to c.args.found c.steps.found _ _ _ _ _ _ _ _ _ _ _ _ c.steps.invariant.round c.in-Err.halt c.args.to c.in-Err.ensures.step

pub returns-clause-round : goal.returns-clause-round
returns-clause-round g c =
    let last : c.steps.done ≡ c.args.to = omega (arith, c.steps.invariant.to, c.steps-test.false) in
    subst (λ n. IsRound {F = g.row.F.Denot} {X = g.row.X.Denot} c.args.opened.now (expand c.args.request.now) c.args.located.now c.args.from n c.args.found
    (object (g.K.Sink.taken c.args.output.now) (g.K.Sink.taken c.steps.output) (g.K.Sink.faults c.args.output.now) (g.K.Sink.faults c.steps.output))
    (object (g.E.Sink.taken c.args.report.now) (g.E.Sink.taken c.steps.report) (g.E.Sink.faults c.args.report.now) (g.E.Sink.faults c.steps.report))
    (Ok c.steps.found)) last c.steps.invariant.round
