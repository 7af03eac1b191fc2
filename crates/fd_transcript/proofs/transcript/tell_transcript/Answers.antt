use Rattle.std.proofs.Common.{◌++◌, ℕ, List, subst, string_bytes}
use Rattle.std.specs.Prelude.{flat_map}
use Rattle.fd_io.specs.Streams.{TakesFront}
use Rattle.fd_listing.specs.Sinks.{TakesAllBut}
use Rattle.fd_transcript.specs.Lines.{all_told, step_lines}
use Rattle.fd_transcript.specs.Starving.{TakesShort}
use Rattle.fd_transcript.specs.Transcripts.{transcript_text}
use Rattle.fd_transcript.proofs.Pieces.{fault_so, last_broken, none_taken, not_starved}
use Rattle.fd_transcript.proofs.Tellings.{some_text, text_whole}
use Rattle.fd_transcript.proofs.transcript.tell_transcript.Goals as goal

pub returns-in-Err-tell_lanes-clause-front : goal.returns-in-Err-tell_lanes-clause-front
returns-in-Err-tell_lanes-clause-front g c =
    let whole = text_whole c.args.transcript.now.before c.lanes-lanes.result.now c.args.script.now.lanes c.args.transcript.now.lanes (string_bytes c.new-lines.result) (string_bytes c.push_front.new.lines) c.in-Ok.ensures c.new-lines.ensures.bytes c.lanes-lanes.ensures.lanes in
    subst (λ (t : List ℕ). TakesFront (g.K.Sink.taken c.args.report.now) (g.K.Sink.taken c.tell_lanes.new.sink) t) whole c.in-Err-tell_lanes.ensures.front

pub returns-clause-front : goal.returns-clause-front
returns-clause-front g c =
    let whole = text_whole c.args.transcript.now.before c.lanes-lanes.result.now c.args.script.now.lanes c.args.transcript.now.lanes (string_bytes c.new-lines.result) (string_bytes c.push_front.new.lines) c.in-Ok.ensures c.new-lines.ensures.bytes c.lanes-lanes.ensures.lanes in
    let took = subst (λ (t : List ℕ). TakesAllBut (g.K.Sink.taken c.args.report.now) (g.K.Sink.taken c.tell_lanes.new.sink) t (string_bytes c.tell_lanes.new.lines)) whole c.in-Ok-tell_lanes.ensures.took in
    last_broken (g.K.Sink.taken c.args.report.now) (g.K.Sink.taken c.tell_lanes.new.sink) (g.K.Sink.taken c.write_text.new.sink) _ (string_bytes c.tell_lanes.new.lines) c.as_str.result.now c.write_text.result took c.as_str.ensures.value c.write_text.ensures.front

pub returns-in-Err-clause-short : goal.returns-in-Err-clause-short
returns-in-Err-clause-short g c = none_taken (g.K.Sink.taken c.args.report.now) (transcript_text c.args.transcript.now.before c.args.script.now.lanes c.args.transcript.now.lanes) (some_text c.args.transcript.now.before c.args.script.now.lanes c.args.transcript.now.lanes)

pub returns-in-Err-tell_lanes-clause-short : goal.returns-in-Err-tell_lanes-clause-short
returns-in-Err-tell_lanes-clause-short g c =
    let whole = text_whole c.args.transcript.now.before c.lanes-lanes.result.now c.args.script.now.lanes c.args.transcript.now.lanes (string_bytes c.new-lines.result) (string_bytes c.push_front.new.lines) c.in-Ok.ensures c.new-lines.ensures.bytes c.lanes-lanes.ensures.lanes in
    let steps = flat_map step_lines (all_told c.lanes-lanes.result.now c.args.transcript.now.lanes) in
    fault_so c.in-Err-tell_lanes.fault
    (TakesShort (g.K.Sink.taken c.args.report.now) (g.K.Sink.taken c.tell_lanes.new.sink) (string_bytes c.push_front.new.lines ++ steps))
    (TakesShort (g.K.Sink.taken c.args.report.now) (g.K.Sink.taken c.tell_lanes.new.sink) (transcript_text c.args.transcript.now.before c.args.script.now.lanes c.args.transcript.now.lanes))
    (λ short. subst (λ (t : List ℕ). TakesShort (g.K.Sink.taken c.args.report.now) (g.K.Sink.taken c.tell_lanes.new.sink) t) whole short) c.in-Err-tell_lanes.ensures.short

pub returns-clause-short : goal.returns-clause-short
returns-clause-short g c =
    not_starved c.write_text.result (TakesShort (g.K.Sink.taken c.args.report.now) (g.K.Sink.taken c.write_text.new.sink) (transcript_text c.args.transcript.now.before c.args.script.now.lanes c.args.transcript.now.lanes)) c.write_text.ensures.memory
