use Rattle.std.proofs.Common.{◌≡◌, ◌≤◌, ◌+◌, length}
use Rattle.std.specs.Prelude.{vec_len}
use Rattle.fd_sections.specs.Joining.{IsWaiting}
use Rattle.fd_streams.specs.Parted.{Parted}
use Rattle.fd_streams.specs.Run.{Reads}
use Rattle.fd_streams.proofs.parting.split_input.Given as goal

abbrev pub invariant-loop : goal.invariant-loop
invariant-loop g l = record {
  gone : Reads (g.I.Source.left l.fn.input) (g.I.Source.left l.input) (Parted l.splitter l.fields (g.K.Sink.taken l.fn.output) (g.K.Sink.taken l.output));
  waiting : IsWaiting l.splitter;
  few : l.fields + length l.splitter.rest ≤ l.splitter.fed;
  limit : l.splitter.fed ≤ 68719476736;
  turns : l.counter ≤ l.splitter.fed;
  room : vec_len l.buffer ≡ 65536;
  read : g.I.Source.faults l.input ≡ g.I.Source.faults l.fn.input;
  calm : g.K.Sink.faults l.output ≡ g.K.Sink.faults l.fn.output;
}
