use Rattle.std.proofs.Common.{◌≡◌, ◌≤◌, ◌+◌, length}
use Rattle.fd_streams.specs.Parted.{PartsOn}
use Rattle.fd_streams.proofs.parting.split_messages.Given as goal

abbrev pub invariant-messages : goal.invariant-messages
invariant-messages g l = record {
  on : PartsOn l.fn.splitter l.splitter l.count (g.K.Sink.taken l.fn.output) (g.K.Sink.taken l.output);
  few : l.count + length l.splitter.rest ≤ length l.fn.splitter.rest;
  calm : g.K.Sink.faults l.output ≡ g.K.Sink.faults l.fn.output;
}

abbrev pub decreases-messages : goal.decreases-messages
decreases-messages g l = length l.splitter.rest
