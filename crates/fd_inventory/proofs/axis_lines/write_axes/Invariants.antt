use Rattle.std.proofs.Common.{◌≡◌, ◌++◌, string_bytes}
use Rattle.fd_listing.specs.Sinks.{TakesAllBut}
use Rattle.fd_inventory.specs.Axes.{axes_lines, seen_axes}
use Rattle.fd_inventory.proofs.axis_lines.write_axes.Given as goal

abbrev pub invariant-loop-index : goal.invariant-loop-index
invariant-loop-index g l = record {
  text : TakesAllBut (g.K.Sink.taken l.fn.sink) (g.K.Sink.taken l.sink) (axes_lines l.dataset (seen_axes l.axes.entries)) (string_bytes l.lines ++ axes_lines l.dataset (seen_axes l.index-iterator));
  calm : g.K.Sink.faults l.sink ≡ g.K.Sink.faults l.fn.sink;
}
