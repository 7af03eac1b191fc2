use Rattle.std.proofs.Common.{rules, ◌∙◌, ◌≤◌, ◌<◌, ◌++◌, ℕ, List, length, refl, sym, subst, string_bytes, arith}
use Rattle.std.specs.Prelude.{flat_map, min, zip}
use Rattle.fd_io.specs.Streams.{TakesFront}
use Rattle.fd_listing.specs.Sinks.{TakesAllBut}
use Rattle.fd_transcript.specs.Lines.{lane_told, step_lines}
use Rattle.fd_transcript.specs.Starving.{TakesShort}
use Rattle.fd_transcript.proofs.Pieces.{calm_before, fault_so, flat_twice, held_all, held_begins, held_fails, held_fails_short, held_next, item_at, zip_at, zip_short}
use Rattle.fd_transcript.proofs.steps.tell_lanes.Goals as goal

pub loop-i-init : goal.loop-i-init
loop-i-init g c = record { text = held_begins (g.K.Sink.taken c.args.sink.now) (string_bytes c.args.lines.now); calm = refl }

pub loop-i-preserved : goal.loop-i-preserved
loop-i-preserved g c =
    let lanes = c.args.lanes.now in
    let ends = c.args.ends.now in
    let i = c.loop-i.i in
    let few : i < min (length lanes) (length ends) = search rules in
    let lt : i < length lanes = omega (arith, few) in
    let lane = c.index-lanes-i.result in
    let at = zip_at lanes ends i lane c.at.result.now (item_at lanes i lane lt c.index-lanes-i.is) c.at.ensures in
    record {
      text = held_next (λ p. flat_map step_lines (lane_told p)) (zip lanes ends) i (lane, c.at.result.now) at (g.K.Sink.taken c.args.sink.now) (g.K.Sink.taken c.loop-i.sink) (g.K.Sink.taken c.tell_lane.new.sink) (string_bytes c.args.lines.now) (string_bytes c.loop-i.lines) c.loop-i.invariant.text (string_bytes c.tell_lane.new.lines) c.in-Ok.ensures.took;
      calm = c.in-Ok.ensures.cause ∙ c.loop-i.invariant.calm;
    }

pub returns-in-Err-clause-front : goal.returns-in-Err-clause-front
returns-in-Err-clause-front g c =
    let lanes = c.args.lanes.now in
    let ends = c.args.ends.now in
    let i = c.loop-i.i in
    let few : i < min (length lanes) (length ends) = search rules in
    let lt : i < length lanes = omega (arith, few) in
    let lane = c.index-lanes-i.result in
    let at = zip_at lanes ends i lane c.at.result.now (item_at lanes i lane lt c.index-lanes-i.is) c.at.ensures in
    subst (λ (t : List ℕ). TakesFront (g.K.Sink.taken c.args.sink.now) (g.K.Sink.taken c.tell_lane.new.sink) ((string_bytes c.args.lines.now) ++ t)) (sym (flat_twice step_lines lane_told (zip lanes ends))) (held_fails (λ p. flat_map step_lines (lane_told p)) (zip lanes ends) i (lane, c.at.result.now) at (g.K.Sink.taken c.args.sink.now) (g.K.Sink.taken c.loop-i.sink) (g.K.Sink.taken c.tell_lane.new.sink) (string_bytes c.args.lines.now) (string_bytes c.loop-i.lines) c.loop-i.invariant.text c.in-Err.ensures.front)

pub returns-in-Err-clause-short : goal.returns-in-Err-clause-short
returns-in-Err-clause-short g c =
    let lanes = c.args.lanes.now in
    let ends = c.args.ends.now in
    let i = c.loop-i.i in
    let few : i < min (length lanes) (length ends) = search rules in
    let lt : i < length lanes = omega (arith, few) in
    let lane = c.index-lanes-i.result in
    let at = zip_at lanes ends i lane c.at.result.now (item_at lanes i lane lt c.index-lanes-i.is) c.at.ensures in
    fault_so c.in-Err.fault
    (TakesShort (g.K.Sink.taken c.loop-i.sink) (g.K.Sink.taken c.tell_lane.new.sink) (string_bytes c.loop-i.lines ++ flat_map step_lines (lane_told (lane, c.at.result.now))))
    (TakesShort (g.K.Sink.taken c.args.sink.now) (g.K.Sink.taken c.tell_lane.new.sink) (string_bytes c.args.lines.now ++ flat_map step_lines (flat_map lane_told (zip lanes ends))))
    (λ short. subst (λ (t : List ℕ). TakesShort (g.K.Sink.taken c.args.sink.now) (g.K.Sink.taken c.tell_lane.new.sink) ((string_bytes c.args.lines.now) ++ t)) (sym (flat_twice step_lines lane_told (zip lanes ends))) (held_fails_short (λ p. flat_map step_lines (lane_told p)) (zip lanes ends) i (lane, c.at.result.now) at (g.K.Sink.taken c.args.sink.now) (g.K.Sink.taken c.loop-i.sink) (g.K.Sink.taken c.tell_lane.new.sink) (string_bytes c.args.lines.now) (string_bytes c.loop-i.lines) c.loop-i.invariant.text short))
    c.in-Err.ensures.short

pub returns-in-Err-clause-cause : goal.returns-in-Err-clause-cause
returns-in-Err-clause-cause g c = calm_before (g.K.Sink.faults c.args.sink.now) (g.K.Sink.faults c.loop-i.sink) (g.K.Sink.faults c.tell_lane.new.sink) c.in-Err.fault c.loop-i.invariant.calm c.in-Err.ensures.cause

pub returns-clause-took : goal.returns-clause-took
returns-clause-took g c =
    let lanes = c.args.lanes.now in
    let ends = c.args.ends.now in
    let i = c.loop-i.i in
    let few : min (length lanes) (length ends) ≤ i = search rules in
    let short = zip_short lanes ends i few in
    subst (λ (t : List ℕ). TakesAllBut (g.K.Sink.taken c.args.sink.now) (g.K.Sink.taken c.loop-i.sink) ((string_bytes c.args.lines.now) ++ t) (string_bytes c.loop-i.lines)) (sym (flat_twice step_lines lane_told (zip lanes ends))) (held_all (λ p. flat_map step_lines (lane_told p)) (zip lanes ends) i (g.K.Sink.taken c.args.sink.now) (g.K.Sink.taken c.loop-i.sink) (string_bytes c.args.lines.now) (string_bytes c.loop-i.lines) short c.loop-i.invariant.text)
