use Rattle.std.proofs.Common.{rules, ◌≡◌, ◌∙◌, ◌≤◌, ◌<◌, ◌++◌, ℕ, List, length, refl, subst, string_bytes}
use Rattle.std.specs.Prelude.{flat_map}
use Rattle.fd_io.specs.Streams.{TakesFront}
use Rattle.fd_listing.specs.Sinks.{TakesAllBut}
use Rattle.fd_transcript.specs.Lines.{answer_line}
use Rattle.fd_transcript.specs.Starving.{TakesShort}
use Rattle.fd_transcript.proofs.Pieces.{calm_before, fault_not_starved, held_all, held_begins, held_fails, held_next, held_starved, held_starved_short, item_at}
use Rattle.fd_transcript.proofs.Tellings.{some_answer}
use Rattle.fd_transcript.proofs.steps.tell_answers.Goals as goal

pub loop-answer-init : goal.loop-answer-init
loop-answer-init g c = record { text = held_begins (g.K.Sink.taken c.args.sink.now) (string_bytes c.args.lines.now); calm = refl }

pub loop-answer-preserved : goal.loop-answer-preserved
loop-answer-preserved g c =
    let xs = c.args.answers.now in
    let i = c.loop-answer.answer-index in
    let x = c.answer-item.result in
    let lt : i < length xs = search rules in
    let at = item_at xs i x lt c.answer-item.is in
    let pushed : string_bytes c.push_answer.new.lines ≡ string_bytes c.loop-answer.lines ++ answer_line x = search rules in
    record {
      text = held_next answer_line xs i x at (g.K.Sink.taken c.args.sink.now) (g.K.Sink.taken c.loop-answer.sink) (g.K.Sink.taken c.write_many.new.sink) (string_bytes c.args.lines.now) (string_bytes c.loop-answer.lines) c.loop-answer.invariant.text (string_bytes c.write_many.new.lines)
          (subst (λ (t : List ℕ). TakesAllBut (g.K.Sink.taken c.loop-answer.sink) (g.K.Sink.taken c.write_many.new.sink) t (string_bytes c.write_many.new.lines)) pushed c.in-Ok-write_many.ensures.took);
      calm = c.in-Ok-write_many.ensures.cause ∙ c.loop-answer.invariant.calm;
    }

pub returns-in-Err-clause-front : goal.returns-in-Err-clause-front
returns-in-Err-clause-front g c =
    let xs = c.args.answers.now in
    let i = c.loop-answer.answer-index in
    let x = c.answer-item.result in
    let lt : i < length xs = search rules in
    let at = item_at xs i x lt c.answer-item.is in
    held_starved answer_line xs i x at (g.K.Sink.taken c.args.sink.now) (g.K.Sink.taken c.loop-answer.sink) (g.K.Sink.taken c.loop-answer.sink) (string_bytes c.args.lines.now) (string_bytes c.loop-answer.lines) c.loop-answer.invariant.text

pub returns-in-Err-write_many-clause-front : goal.returns-in-Err-write_many-clause-front
returns-in-Err-write_many-clause-front g c =
    let xs = c.args.answers.now in
    let i = c.loop-answer.answer-index in
    let x = c.answer-item.result in
    let lt : i < length xs = search rules in
    let at = item_at xs i x lt c.answer-item.is in
    let pushed : string_bytes c.push_answer.new.lines ≡ string_bytes c.loop-answer.lines ++ answer_line x = search rules in
    held_fails answer_line xs i x at (g.K.Sink.taken c.args.sink.now) (g.K.Sink.taken c.loop-answer.sink) (g.K.Sink.taken c.write_many.new.sink) (string_bytes c.args.lines.now) (string_bytes c.loop-answer.lines) c.loop-answer.invariant.text
    (subst (λ (t : List ℕ). TakesFront (g.K.Sink.taken c.loop-answer.sink) (g.K.Sink.taken c.write_many.new.sink) t) pushed c.in-Err-write_many.ensures.front)

pub returns-in-Err-clause-short : goal.returns-in-Err-clause-short
returns-in-Err-clause-short g c =
    let xs = c.args.answers.now in
    let i = c.loop-answer.answer-index in
    let x = c.answer-item.result in
    let lt : i < length xs = search rules in
    let at = item_at xs i x lt c.answer-item.is in
    held_starved_short answer_line xs i x at (g.K.Sink.taken c.args.sink.now) (g.K.Sink.taken c.loop-answer.sink) (g.K.Sink.taken c.loop-answer.sink) (string_bytes c.args.lines.now) (string_bytes c.loop-answer.lines) c.loop-answer.invariant.text (some_answer x)

pub returns-in-Err-write_many-clause-short : goal.returns-in-Err-write_many-clause-short
returns-in-Err-write_many-clause-short g c =
    fault_not_starved c.in-Err-write_many.fault (TakesShort (g.K.Sink.taken c.args.sink.now) (g.K.Sink.taken c.write_many.new.sink) (string_bytes c.args.lines.now ++ flat_map answer_line c.args.answers.now)) c.in-Err-write_many.ensures.memory

pub returns-in-Err-write_many-clause-cause : goal.returns-in-Err-write_many-clause-cause
returns-in-Err-write_many-clause-cause g c = calm_before (g.K.Sink.faults c.args.sink.now) (g.K.Sink.faults c.loop-answer.sink) (g.K.Sink.faults c.write_many.new.sink) c.in-Err-write_many.fault c.loop-answer.invariant.calm c.in-Err-write_many.ensures.cause

pub returns-clause-took : goal.returns-clause-took
returns-clause-took g c =
    let xs = c.args.answers.now in
    let i = c.loop-answer.answer-index in
    let le : length xs ≤ i = search rules in
    held_all answer_line xs i (g.K.Sink.taken c.args.sink.now) (g.K.Sink.taken c.loop-answer.sink) (string_bytes c.args.lines.now) (string_bytes c.loop-answer.lines) le c.loop-answer.invariant.text
