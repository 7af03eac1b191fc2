use Rattle.std.proofs.Common.{◌≡◌, take}
use Rattle.std.specs.Prelude.{flat_map}
use Rattle.fd_io.specs.Streams.{Takes}
use Rattle.fd_transcript.specs.Lines.{answer_found}
use Rattle.fd_transcript.proofs.found.write_answers.Given as goal

abbrev pub invariant-loop-answer : goal.invariant-loop-answer
invariant-loop-answer g l = record {
  took : Takes (g.K.Sink.taken l.fn.output) (g.K.Sink.taken l.output) (flat_map answer_found (take l.answer-index l.answers));
  calm : g.K.Sink.faults l.output ≡ g.K.Sink.faults l.fn.output;
}
