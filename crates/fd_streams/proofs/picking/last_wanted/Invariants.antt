use Rattle.std.proofs.Common.{◌≡◌, ◌≤◌}
use Rattle.std.specs.Prelude.{vec_len}
use Rattle.fd_sections.specs.Joining.{IsWaiting}
use Rattle.fd_streams.specs.Run.{Reads, Searched}
use Rattle.fd_streams.proofs.picking.last_wanted.Given as goal

abbrev pub invariant-loop : goal.invariant-loop
invariant-loop g l = record {
  searched : Reads (g.I.Source.left l.fn.input) (g.I.Source.left l.input) (Searched l.wanted l.splitter l.last);
  waiting : IsWaiting l.splitter;
  limit : l.splitter.fed ≤ 68719476736;
  turns : l.counter ≤ l.splitter.fed;
  room : vec_len l.buffer ≡ 65536;
  calm : g.I.Source.faults l.input ≡ g.I.Source.faults l.fn.input;
}
