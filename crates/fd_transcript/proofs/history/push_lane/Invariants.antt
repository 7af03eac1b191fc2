use Rattle.std.proofs.Common.{◌≡◌, ◌++◌, length, map, take}
use Rattle.std.specs.Prelude.{filter_map}
use Rattle.fd_transcript.specs.History.{entry_of, flushed_from}
use Rattle.fd_transcript.specs.Seen.{seen_flush}
use Rattle.fd_transcript.proofs.history.push_lane.Given as goal

abbrev pub invariant-loop-i : goal.invariant-loop-i
invariant-loop-i g l = record {
  flushes : map seen_flush l.listed.items ≡ map seen_flush l.fn.listed.items ++ flushed_from l.lane 1 (filter_map entry_of (take l.i l.ends));
  count : l.count ≡ length (filter_map entry_of (take l.i l.ends));
}
