use Rattle.std.proofs.Common.{◌≡◌, length}
use Rattle.fd_streams.specs.Halted.{ListsOn}
use Rattle.fd_streams.proofs.listing.list_messages.Given as goal

abbrev pub invariant-messages : goal.invariant-messages
invariant-messages g l = record {
  on : ListsOn l.listing l.fn.splitter l.splitter (g.K.Sink.taken l.fn.output) (g.K.Sink.taken l.output);
  calm : g.K.Sink.faults l.output ≡ g.K.Sink.faults l.fn.output;
}

abbrev pub decreases-messages : goal.decreases-messages
decreases-messages g l = length l.splitter.rest
