use Rattle.std.proofs.Common.{rules, ◌∙◌, ◌≤◌, ◌<◌, ℕ, length, refl, subst}
use Rattle.std.specs.Prelude.{flat_map}
use Rattle.fd_bytes.specs.Causes.{Rose}
use Rattle.fd_listing.proofs.Taking.{takes_nothing}
use Rattle.fd_transcript.specs.Lines.{answer_found, answers_of}
use Rattle.fd_transcript.proofs.Pieces.{item_at, took_all, took_front, took_next}
use Rattle.fd_transcript.proofs.found.write_lane.Goals as goal

pub loop-end-init : goal.loop-end-init
loop-end-init g c = record { took = takes_nothing (g.K.Sink.taken c.args.output.now); calm = refl }

pub loop-end-preserved : goal.loop-end-preserved
loop-end-preserved g c =
    let xs = c.args.ends.now in
    let i = c.loop-end.end-index in
    let x = c.end-item.result in
    let lt : i < length xs = search rules in
    let at = item_at xs i x lt c.end-item.is in
    record {
      took = took_next (λ e. flat_map answer_found (answers_of e)) xs i (g.K.Sink.taken c.args.output.now) (g.K.Sink.taken c.loop-end.output) (g.K.Sink.taken c.write_end.new.output) x at c.loop-end.invariant.took c.in-Ok.ensures.took;
      calm = c.in-Ok.ensures.calm ∙ c.loop-end.invariant.calm;
    }

pub returns-in-Err-clause-front : goal.returns-in-Err-clause-front
returns-in-Err-clause-front g c =
    let xs = c.args.ends.now in
    let i = c.loop-end.end-index in
    let x = c.end-item.result in
    let lt : i < length xs = search rules in
    let at = item_at xs i x lt c.end-item.is in
    took_front (λ e. flat_map answer_found (answers_of e)) xs i (g.K.Sink.taken c.args.output.now) (g.K.Sink.taken c.loop-end.output) (g.K.Sink.taken c.write_end.new.output) x at c.loop-end.invariant.took c.in-Err.ensures.front

pub returns-in-Err-clause-cause : goal.returns-in-Err-clause-cause
returns-in-Err-clause-cause g c = subst (λ (n : ℕ). Rose n (g.K.Sink.faults c.write_end.new.output)) c.loop-end.invariant.calm c.in-Err.ensures.cause

pub returns-clause-took : goal.returns-clause-took
returns-clause-took g c =
    let xs = c.args.ends.now in
    let i = c.loop-end.end-index in
    let le : length xs ≤ i = search rules in
    took_all (λ e. flat_map answer_found (answers_of e)) xs i (g.K.Sink.taken c.args.output.now) (g.K.Sink.taken c.loop-end.output) le c.loop-end.invariant.took
