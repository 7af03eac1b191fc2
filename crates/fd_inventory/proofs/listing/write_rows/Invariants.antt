use Rattle.std.proofs.Common.{◌≡◌, ◌++◌, map, string_bytes}
use Rattle.fd_listing.specs.Sinks.{TakesAllBut}
use Rattle.fd_inventory.specs.Shown.{kept}
use Rattle.fd_inventory.specs.Written.{shown_lines}
use Rattle.fd_inventory.proofs.listing.write_rows.Given as goal

abbrev pub invariant-loop-texts : goal.invariant-loop-texts
invariant-loop-texts g l = record {
  text : TakesAllBut (g.K.Sink.taken l.fn.sink) (g.K.Sink.taken l.sink) (shown_lines l.dataset (map kept l.rows.entries)) (string_bytes l.lines ++ shown_lines l.dataset (map kept l.texts-iterator));
  calm : g.K.Sink.faults l.sink ≡ g.K.Sink.faults l.fn.sink;
}
