use Rattle.std.proofs.Common.{rules, ◌∙◌, ◌≤◌, ◌<◌, ℕ, length, refl, subst}
use Rattle.fd_bytes.specs.Causes.{Rose}
use Rattle.fd_listing.proofs.Taking.{takes_nothing}
use Rattle.fd_transcript.specs.Lines.{answer_found}
use Rattle.fd_transcript.proofs.Pieces.{item_at, took_all, took_front, took_next}
use Rattle.fd_transcript.proofs.found.write_answers.Goals as goal

pub loop-answer-init : goal.loop-answer-init
loop-answer-init g c = record { took = takes_nothing (g.K.Sink.taken c.args.output.now); calm = refl }

pub loop-answer-preserved : goal.loop-answer-preserved
loop-answer-preserved g c =
    let xs = c.args.answers.now in
    let i = c.loop-answer.answer-index in
    let x = c.answer-item.result in
    let lt : i < length xs = search rules in
    let at = item_at xs i x lt c.answer-item.is in
    record {
      took = took_next answer_found xs i (g.K.Sink.taken c.args.output.now) (g.K.Sink.taken c.loop-answer.output) (g.K.Sink.taken c.write_answer.new.output) x at c.loop-answer.invariant.took c.in-Ok.ensures.took;
      calm = c.in-Ok.ensures.calm ∙ c.loop-answer.invariant.calm;
    }

pub returns-in-Err-clause-front : goal.returns-in-Err-clause-front
returns-in-Err-clause-front g c =
    let xs = c.args.answers.now in
    let i = c.loop-answer.answer-index in
    let x = c.answer-item.result in
    let lt : i < length xs = search rules in
    let at = item_at xs i x lt c.answer-item.is in
    took_front answer_found xs i (g.K.Sink.taken c.args.output.now) (g.K.Sink.taken c.loop-answer.output) (g.K.Sink.taken c.write_answer.new.output) x at c.loop-answer.invariant.took c.in-Err.ensures.front

pub returns-in-Err-clause-cause : goal.returns-in-Err-clause-cause
returns-in-Err-clause-cause g c = subst (λ (n : ℕ). Rose n (g.K.Sink.faults c.write_answer.new.output)) c.loop-answer.invariant.calm c.in-Err.ensures.cause

pub returns-clause-took : goal.returns-clause-took
returns-clause-took g c =
    let xs = c.args.answers.now in
    let i = c.loop-answer.answer-index in
    let le : length xs ≤ i = search rules in
    took_all answer_found xs i (g.K.Sink.taken c.args.output.now) (g.K.Sink.taken c.loop-answer.output) le c.loop-answer.invariant.took
