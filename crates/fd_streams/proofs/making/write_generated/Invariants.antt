use Rattle.std.proofs.Common.{◌≡◌}
use Rattle.fd_io.specs.Streams.{Takes}
use Rattle.fd_outcome.specs.Outcome.{generated_messages}
use Rattle.fd_streams.proofs.making.write_generated.Given as goal

abbrev pub invariant-loop-i : goal.invariant-loop-i
invariant-loop-i g l = record {
  took : Takes (g.K.Sink.taken l.fn.output) (g.K.Sink.taken l.output) (generated_messages l.i);
  calm : g.K.Sink.faults l.output ≡ g.K.Sink.faults l.fn.output;
}
