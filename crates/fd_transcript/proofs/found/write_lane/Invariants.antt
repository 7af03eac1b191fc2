use Rattle.std.proofs.Common.{◌≡◌, take}
use Rattle.std.specs.Prelude.{flat_map}
use Rattle.fd_io.specs.Streams.{Takes}
use Rattle.fd_transcript.specs.Lines.{answer_found, answers_of}
use Rattle.fd_transcript.proofs.found.write_lane.Given as goal

abbrev pub invariant-loop-end : goal.invariant-loop-end
invariant-loop-end g l = record {
  took : Takes (g.K.Sink.taken l.fn.output) (g.K.Sink.taken l.output) (flat_map (λ e. flat_map answer_found (answers_of e)) (take l.end-index l.ends));
  calm : g.K.Sink.faults l.output ≡ g.K.Sink.faults l.fn.output;
}
