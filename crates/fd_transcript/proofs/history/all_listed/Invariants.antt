use Rattle.std.proofs.Common.{◌≡◌, map, take}
use Rattle.std.specs.Prelude.{flat_map, zip}
use Rattle.fd_transcript.specs.History.{lane_flushed}
use Rattle.fd_transcript.specs.Seen.{seen_flush}
use Rattle.fd_transcript.proofs.history.all_listed.Given as goal

abbrev pub invariant-loop-i : goal.invariant-loop-i
invariant-loop-i g l = map seen_flush l.listed.items ≡ flat_map lane_flushed (take l.i (zip l.lanes l.ends))
