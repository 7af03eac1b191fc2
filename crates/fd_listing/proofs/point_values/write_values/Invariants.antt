use Rattle.std.proofs.Common.{◌≡◌, ◌≤◌, ◌+◌, ◌++◌, length, string_bytes}
use Rattle.fd_packing.specs.Value.{values_of}
use Rattle.fd_listing.specs.Sinks.{TakesAllBut}
use Rattle.fd_listing.specs.Values.{values_text, lines_from, most_points}
use Rattle.fd_listing.proofs.point_values.write_values.Given as goal

abbrev pub invariant-points : goal.invariant-points
invariant-points g l = record {
  text : TakesAllBut (g.K.Sink.taken l.fn.sink) (g.K.Sink.taken l.sink) (values_text l.number l.decimals (values_of l.field)) (string_bytes l.lines ++ lines_from l.number l.decimals l.point l.points);
  calm : g.K.Sink.faults l.sink ≡ g.K.Sink.faults l.fn.sink;
  room : l.point + length l.points ≤ most_points;
}

abbrev pub decreases-points : goal.decreases-points
decreases-points g l = length l.points
