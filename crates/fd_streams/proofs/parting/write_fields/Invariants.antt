use Rattle.std.proofs.Common.{◌≡◌, take}
use Rattle.fd_io.specs.Streams.{Takes}
use Rattle.fd_streams.specs.Parted.{messages_of}
use Rattle.fd_streams.proofs.parting.write_fields.Given as goal

abbrev pub invariant-loop-i : goal.invariant-loop-i
invariant-loop-i g l = record {
  took : Takes (g.K.Sink.taken l.fn.output) (g.K.Sink.taken l.output) (messages_of (take l.i l.fields));
  calm : g.K.Sink.faults l.output ≡ g.K.Sink.faults l.fn.output;
}
