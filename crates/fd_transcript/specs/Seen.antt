-- What the code's flushes are.
use Rattle.std.specs.Prelude.{ℕ}
use Rattle.fd_transcript.specs.declared.history.Listed.{Listed}
use Rattle.fd_transcript.specs.History.{Flushed}

abbrev pub seen_flush : Listed → Flushed
seen_flush l = record { lane = l.lane.now; number = l.number; entry = l.entry }

-- the number of the entry
abbrev pub entry_number : Listed → ℕ
entry_number l = l.entry
