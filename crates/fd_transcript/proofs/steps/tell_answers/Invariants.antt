use Rattle.std.proofs.Common.{◌≡◌, ◌++◌, string_bytes, take}
use Rattle.std.specs.Prelude.{flat_map}
use Rattle.fd_listing.specs.Sinks.{TakesAllBut}
use Rattle.fd_transcript.specs.Lines.{answer_line}
use Rattle.fd_transcript.proofs.steps.tell_answers.Given as goal

abbrev pub invariant-loop-answer : goal.invariant-loop-answer
invariant-loop-answer g l = record {
  text : TakesAllBut (g.K.Sink.taken l.fn.sink) (g.K.Sink.taken l.sink) (string_bytes l.fn.lines ++ flat_map answer_line (take l.answer-index l.answers)) (string_bytes l.lines);
  calm : g.K.Sink.faults l.sink ≡ g.K.Sink.faults l.fn.sink;
}
