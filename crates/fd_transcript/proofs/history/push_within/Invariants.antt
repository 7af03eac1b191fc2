use Rattle.std.proofs.Common.{◌≡◌, ◌++◌, string_bytes, take}
use Rattle.std.specs.Prelude.{flat_map}
use Rattle.fd_transcript.specs.History.{flushed_within}
use Rattle.fd_transcript.specs.Seen.{seen_flush}
use Rattle.fd_transcript.proofs.history.push_within.Given as goal

abbrev pub invariant-loop-flush : goal.invariant-loop-flush
invariant-loop-flush l = string_bytes l.line ≡ string_bytes l.fn.line ++ flat_map (λ x. flushed_within l.before l.last (seen_flush x)) (take l.flush-index l.listed)
