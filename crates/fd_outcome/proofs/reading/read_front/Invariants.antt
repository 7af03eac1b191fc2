use Rattle.std.proofs.Common.{◌≡◌, ◌≤◌, ◌-◌, length}
use Rattle.std.specs.Prelude.{vec_len}
use Rattle.fd_io.specs.Streams.{Gives}
use Rattle.fd_outcome.proofs.reading.read_front.Given as goal

abbrev pub invariant-loop-input : goal.invariant-loop-input
invariant-loop-input g l = record {
  given : Gives (g.I.Source.left l.fn.input) (g.I.Source.left l.input) l.octets.items;
  within : length l.octets.items ≤ l.most;
  room : vec_len l.buffer ≡ 65536;
  calm : g.I.Source.faults l.input ≡ g.I.Source.faults l.fn.input;
}

abbrev pub decreases-loop-input : goal.decreases-loop-input
decreases-loop-input g l = l.most - length l.octets.items
