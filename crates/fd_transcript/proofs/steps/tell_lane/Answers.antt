use Rattle.std.proofs.Common.{rules, ◌∙◌, ◌≤◌, ◌+◌, ◌++◌, ℕ, List, length, refl, subst, string_bytes, arith}
use Rattle.std.specs.Prelude.{flat_map, min}
use Rattle.fd_io.specs.Streams.{TakesFront}
use Rattle.fd_listing.specs.Sinks.{TakesAllBut}
use Rattle.fd_transcript.specs.Lines.{step_lines, told_from}
use Rattle.fd_transcript.specs.Starving.{TakesShort}
use Rattle.fd_transcript.proofs.Pieces.{calm_before, fault_so, held_all, held_begins, held_fails, held_fails_short, held_next}
use Rattle.fd_transcript.proofs.Tellings.{told_at, told_short}
use Rattle.fd_transcript.proofs.steps.tell_lane.Goals as goal

pub loop-i-init : goal.loop-i-init
loop-i-init g c = record { text = held_begins (g.K.Sink.taken c.args.sink.now) (string_bytes c.args.lines.now); calm = refl }

pub loop-i-preserved : goal.loop-i-preserved
loop-i-preserved g c =
    let ss = c.args.lane.now.steps in
    let es = c.args.ends.now in
    let i = c.loop-i.i in
    let lane = string_bytes c.args.lane.now.name in
    let at = told_at lane 1 ss es i (i + 1) c.at-step.result.now c.at-end.result.now c.at-step.ensures c.at-end.ensures (omega arith) in
    record {
      text = held_next step_lines (told_from lane 1 ss es) i (record { lane = lane; number = i + 1; step = c.at-step.result.now; end = c.at-end.result.now }) at (g.K.Sink.taken c.args.sink.now) (g.K.Sink.taken c.loop-i.sink) (g.K.Sink.taken c.tell_step.new.sink) (string_bytes c.args.lines.now) (string_bytes c.loop-i.lines) c.loop-i.invariant.text (string_bytes c.tell_step.new.lines) (subst (λ (n : List ℕ). TakesAllBut (g.K.Sink.taken c.loop-i.sink) (g.K.Sink.taken c.tell_step.new.sink) (string_bytes c.loop-i.lines ++ step_lines (record { lane = n; number = i + 1; step = c.at-step.result.now; end = c.at-end.result.now })) (string_bytes c.tell_step.new.lines)) c.as_str-name.ensures.value c.in-Ok.ensures.took);
      calm = c.in-Ok.ensures.cause ∙ c.loop-i.invariant.calm;
    }

pub returns-in-Err-clause-front : goal.returns-in-Err-clause-front
returns-in-Err-clause-front g c =
    let ss = c.args.lane.now.steps in
    let es = c.args.ends.now in
    let i = c.loop-i.i in
    let lane = string_bytes c.args.lane.now.name in
    let at = told_at lane 1 ss es i (i + 1) c.at-step.result.now c.at-end.result.now c.at-step.ensures c.at-end.ensures (omega arith) in
    (held_fails step_lines (told_from lane 1 ss es) i (record { lane = lane; number = i + 1; step = c.at-step.result.now; end = c.at-end.result.now }) at (g.K.Sink.taken c.args.sink.now) (g.K.Sink.taken c.loop-i.sink) (g.K.Sink.taken c.tell_step.new.sink) (string_bytes c.args.lines.now) (string_bytes c.loop-i.lines) c.loop-i.invariant.text (subst (λ (n : List ℕ). TakesFront (g.K.Sink.taken c.loop-i.sink) (g.K.Sink.taken c.tell_step.new.sink) (string_bytes c.loop-i.lines ++ step_lines (record { lane = n; number = i + 1; step = c.at-step.result.now; end = c.at-end.result.now }))) c.as_str-name.ensures.value c.in-Err.ensures.front))

pub returns-in-Err-clause-short : goal.returns-in-Err-clause-short
returns-in-Err-clause-short g c =
    let ss = c.args.lane.now.steps in
    let es = c.args.ends.now in
    let i = c.loop-i.i in
    let lane = string_bytes c.args.lane.now.name in
    let at = told_at lane 1 ss es i (i + 1) c.at-step.result.now c.at-end.result.now c.at-step.ensures c.at-end.ensures (omega arith) in
    fault_so c.in-Err.fault
    (TakesShort (g.K.Sink.taken c.loop-i.sink) (g.K.Sink.taken c.tell_step.new.sink) (string_bytes c.loop-i.lines ++ step_lines (record { lane = c.as_str-name.result.now; number = i + 1; step = c.at-step.result.now; end = c.at-end.result.now })))
    (TakesShort (g.K.Sink.taken c.args.sink.now) (g.K.Sink.taken c.tell_step.new.sink) (string_bytes c.args.lines.now ++ flat_map step_lines (told_from lane 1 ss es)))
    (λ short. held_fails_short step_lines (told_from lane 1 ss es) i (record { lane = lane; number = i + 1; step = c.at-step.result.now; end = c.at-end.result.now }) at (g.K.Sink.taken c.args.sink.now) (g.K.Sink.taken c.loop-i.sink) (g.K.Sink.taken c.tell_step.new.sink) (string_bytes c.args.lines.now) (string_bytes c.loop-i.lines) c.loop-i.invariant.text (subst (λ (n : List ℕ). TakesShort (g.K.Sink.taken c.loop-i.sink) (g.K.Sink.taken c.tell_step.new.sink) (string_bytes c.loop-i.lines ++ step_lines (record { lane = n; number = i + 1; step = c.at-step.result.now; end = c.at-end.result.now }))) c.as_str-name.ensures.value short))
    c.in-Err.ensures.short

pub returns-in-Err-clause-cause : goal.returns-in-Err-clause-cause
returns-in-Err-clause-cause g c = calm_before (g.K.Sink.faults c.args.sink.now) (g.K.Sink.faults c.loop-i.sink) (g.K.Sink.faults c.tell_step.new.sink) c.in-Err.fault c.loop-i.invariant.calm c.in-Err.ensures.cause

pub returns-clause-took : goal.returns-clause-took
returns-clause-took g c =
    let ss = c.args.lane.now.steps in
    let es = c.args.ends.now in
    let i = c.loop-i.i in
    let lane = string_bytes c.args.lane.now.name in
    let few : min (length ss) (length es) ≤ i = search rules in
    let short = told_short lane 1 ss es i few in
    (held_all step_lines (told_from lane 1 ss es) i (g.K.Sink.taken c.args.sink.now) (g.K.Sink.taken c.loop-i.sink) (string_bytes c.args.lines.now) (string_bytes c.loop-i.lines) short c.loop-i.invariant.text)
