use Rattle.std.proofs.Common.{◌≡◌, take}
use Rattle.std.specs.Prelude.{flat_map}
use Rattle.fd_io.specs.Streams.{Takes}
use Rattle.fd_transcript.specs.Lines.{lane_found}
use Rattle.fd_transcript.proofs.found.write_found.Given as goal

abbrev pub invariant-loop-ends : goal.invariant-loop-ends
invariant-loop-ends g l = record {
  took : Takes (g.K.Sink.taken l.fn.output) (g.K.Sink.taken l.output) (flat_map lane_found (take l.ends-index l.lanes));
  calm : g.K.Sink.faults l.output ≡ g.K.Sink.faults l.fn.output;
}
