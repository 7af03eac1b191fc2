use Rattle.std.proofs.Common.{rules, ◌≡◌, ◌∙◌, ◌++◌, ℕ, List, sym, ap, subst, string_bytes, append_assoc}
use Rattle.std.specs.Prelude.{flat_map}
use Rattle.fd_listing.specs.Sinks.{HasSinkCause}
use Rattle.fd_transcript.specs.Lines.{answer_line, answers_of, step_line}
use Rattle.fd_transcript.specs.Starving.{TakesShort}
use Rattle.fd_transcript.proofs.Pieces.{fault_not_starved, front_longer, none_taken, some_back, some_front, two_broken, two_pieces, two_short}
use Rattle.fd_transcript.proofs.Tellings.{some_step}
use Rattle.fd_transcript.proofs.steps.tell_step.Goals as goal

pub returns-in-Err-write_many-clause-front : goal.returns-in-Err-write_many-clause-front
returns-in-Err-write_many-clause-front g c =
    let one = step_line (record { lane = c.args.lane.now; number = c.args.number; step = c.args.step.now; end = c.args.end.now }) in
    let more = flat_map answer_line (answers_of c.args.end.now) in
    let pushed : string_bytes c.push_step.new.lines ≡ string_bytes c.args.lines.now ++ one = search rules in
    front_longer (g.K.Sink.taken c.args.sink.now) (g.K.Sink.taken c.write_many.new.sink) (string_bytes c.push_step.new.lines) more (string_bytes c.args.lines.now ++ (one ++ more))
    (sym (append_assoc (string_bytes c.args.lines.now) one more) ∙ ap (λ (t : List ℕ). t ++ more) (sym pushed)) c.in-Err-write_many.ensures.front

pub returns-clause-took : goal.returns-clause-took
returns-clause-took g c =
    let one = step_line (record { lane = c.args.lane.now; number = c.args.number; step = c.args.step.now; end = c.args.end.now }) in
    let pushed : string_bytes c.push_step.new.lines ≡ string_bytes c.args.lines.now ++ one = search rules in
    two_pieces (g.K.Sink.taken c.args.sink.now) (g.K.Sink.taken c.write_many.new.sink) (g.K.Sink.taken c.tell_answers.new.sink) (string_bytes c.args.lines.now) one (flat_map answer_line (answers_of c.args.end.now)) (string_bytes c.push_step.new.lines) (string_bytes c.write_many.new.lines) (string_bytes c.tell_answers.new.lines) c.tell_answers.result pushed c.in-Ok-write_many.ensures.took
    (ap (flat_map answer_line) c.answers_of.ensures) c.tell_answers.ensures.took

pub returns-clause-front : goal.returns-clause-front
returns-clause-front g c =
    let one = step_line (record { lane = c.args.lane.now; number = c.args.number; step = c.args.step.now; end = c.args.end.now }) in
    let pushed : string_bytes c.push_step.new.lines ≡ string_bytes c.args.lines.now ++ one = search rules in
    two_broken (g.K.Sink.taken c.args.sink.now) (g.K.Sink.taken c.write_many.new.sink) (g.K.Sink.taken c.tell_answers.new.sink) (string_bytes c.args.lines.now) one (flat_map answer_line (answers_of c.args.end.now)) (string_bytes c.push_step.new.lines) (string_bytes c.write_many.new.lines) c.tell_answers.result pushed c.in-Ok-write_many.ensures.took
    (ap (flat_map answer_line) c.answers_of.ensures) c.tell_answers.ensures.front

pub returns-in-Err-clause-short : goal.returns-in-Err-clause-short
returns-in-Err-clause-short g c =
    let one = step_line (record { lane = c.args.lane.now; number = c.args.number; step = c.args.step.now; end = c.args.end.now }) in
    let more = flat_map answer_line (answers_of c.args.end.now) in
    none_taken (g.K.Sink.taken c.args.sink.now) (string_bytes c.args.lines.now ++ (one ++ more)) (some_back (string_bytes c.args.lines.now) (one ++ more) (some_front one more (some_step (record { lane = c.args.lane.now; number = c.args.number; step = c.args.step.now; end = c.args.end.now }))))

pub returns-in-Err-write_many-clause-short : goal.returns-in-Err-write_many-clause-short
returns-in-Err-write_many-clause-short g c =
    fault_not_starved c.in-Err-write_many.fault (TakesShort (g.K.Sink.taken c.args.sink.now) (g.K.Sink.taken c.write_many.new.sink) (string_bytes c.args.lines.now ++ (step_line (record { lane = c.args.lane.now; number = c.args.number; step = c.args.step.now; end = c.args.end.now }) ++ flat_map answer_line (answers_of c.args.end.now)))) c.in-Err-write_many.ensures.memory

pub returns-clause-short : goal.returns-clause-short
returns-clause-short g c =
    let one = step_line (record { lane = c.args.lane.now; number = c.args.number; step = c.args.step.now; end = c.args.end.now }) in
    let pushed : string_bytes c.push_step.new.lines ≡ string_bytes c.args.lines.now ++ one = search rules in
    two_short (g.K.Sink.taken c.args.sink.now) (g.K.Sink.taken c.write_many.new.sink) (g.K.Sink.taken c.tell_answers.new.sink) (string_bytes c.args.lines.now) one (flat_map answer_line (answers_of c.args.end.now)) (string_bytes c.push_step.new.lines) (string_bytes c.write_many.new.lines) c.tell_answers.result pushed c.in-Ok-write_many.ensures.took
    (ap (flat_map answer_line) c.answers_of.ensures) c.tell_answers.ensures.short

pub returns-clause-cause : goal.returns-clause-cause
returns-clause-cause g c = subst (λ (n : ℕ). HasSinkCause c.tell_answers.result n (g.K.Sink.faults c.tell_answers.new.sink)) c.in-Ok-write_many.ensures.cause c.tell_answers.ensures.cause
