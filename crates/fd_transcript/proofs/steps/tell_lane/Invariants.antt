use Rattle.std.proofs.Common.{◌≡◌, ◌++◌, string_bytes, take}
use Rattle.std.specs.Prelude.{flat_map}
use Rattle.fd_listing.specs.Sinks.{TakesAllBut}
use Rattle.fd_transcript.specs.Lines.{step_lines, told_from}
use Rattle.fd_transcript.proofs.steps.tell_lane.Given as goal

abbrev pub invariant-loop-i : goal.invariant-loop-i
invariant-loop-i g l = record {
  text : TakesAllBut (g.K.Sink.taken l.fn.sink) (g.K.Sink.taken l.sink) (string_bytes l.fn.lines ++ flat_map step_lines (take l.i (told_from (string_bytes l.lane.name) 1 l.lane.steps l.ends))) (string_bytes l.lines);
  calm : g.K.Sink.faults l.sink ≡ g.K.Sink.faults l.fn.sink;
}
