use Rattle.std.proofs.Common.{rules, ◌∙◌, ◌≤◌, ◌<◌, ℕ, length, refl, subst}
use Rattle.fd_bytes.specs.Causes.{Rose}
use Rattle.fd_io.specs.Streams.{Takes, TakesFront}
use Rattle.fd_listing.proofs.Taking.{takes_nothing}
use Rattle.fd_transcript.specs.Lines.{found_bytes, lane_found}
use Rattle.fd_transcript.proofs.Pieces.{item_at, took_all, took_front, took_next}
use Rattle.fd_transcript.proofs.found.write_found.Goals as goal

pub loop-ends-init : goal.loop-ends-init
loop-ends-init g c = record { took = takes_nothing (g.K.Sink.taken c.args.output.now); calm = refl }

pub loop-ends-preserved : goal.loop-ends-preserved
loop-ends-preserved g c =
    let xs = c.as_slice-lanes.result.now in
    let i = c.loop-ends.ends-index in
    let x = c.ends-item.result in
    let lt : i < length xs = search rules in
    let at = item_at xs i x lt c.ends-item.is in
    record {
      took = took_next lane_found xs i (g.K.Sink.taken c.args.output.now) (g.K.Sink.taken c.loop-ends.output) (g.K.Sink.taken c.write_lane.new.output) x at c.loop-ends.invariant.took (subst (λ es. Takes (g.K.Sink.taken c.loop-ends.output) (g.K.Sink.taken c.write_lane.new.output) (lane_found es)) c.as_slice.ensures c.in-Ok.ensures.took);
      calm = c.in-Ok.ensures.calm ∙ c.loop-ends.invariant.calm;
    }

pub returns-in-Err-clause-front : goal.returns-in-Err-clause-front
returns-in-Err-clause-front g c =
    let xs = c.as_slice-lanes.result.now in
    let i = c.loop-ends.ends-index in
    let x = c.ends-item.result in
    let lt : i < length xs = search rules in
    let at = item_at xs i x lt c.ends-item.is in
    subst (λ ls. TakesFront (g.K.Sink.taken c.args.output.now) (g.K.Sink.taken c.write_lane.new.output) (found_bytes ls)) c.as_slice-lanes.ensures (
    took_front lane_found xs i (g.K.Sink.taken c.args.output.now) (g.K.Sink.taken c.loop-ends.output) (g.K.Sink.taken c.write_lane.new.output) x at c.loop-ends.invariant.took (subst (λ es. TakesFront (g.K.Sink.taken c.loop-ends.output) (g.K.Sink.taken c.write_lane.new.output) (lane_found es)) c.as_slice.ensures c.in-Err.ensures.front))

pub returns-in-Err-clause-cause : goal.returns-in-Err-clause-cause
returns-in-Err-clause-cause g c = subst (λ (n : ℕ). Rose n (g.K.Sink.faults c.write_lane.new.output)) c.loop-ends.invariant.calm c.in-Err.ensures.cause

pub returns-clause-took : goal.returns-clause-took
returns-clause-took g c =
    let xs = c.as_slice-lanes.result.now in
    let i = c.loop-ends.ends-index in
    let le : length xs ≤ i = search rules in
    subst (λ ls. Takes (g.K.Sink.taken c.args.output.now) (g.K.Sink.taken c.loop-ends.output) (found_bytes ls)) c.as_slice-lanes.ensures (took_all lane_found xs i (g.K.Sink.taken c.args.output.now) (g.K.Sink.taken c.loop-ends.output) le c.loop-ends.invariant.took)
