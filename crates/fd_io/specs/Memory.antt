-- What is seen of the source and the sinks in memory.
use Rattle.std.specs.Prelude.{ℕ, ◌-◌, List, drop, length}
use Rattle.fd_io.specs.declared.memory.MemSource.{MemSource}
use Rattle.fd_io.specs.declared.memory.MemSink.{MemSink}
use Rattle.fd_io.specs.declared.kept.Kept.{Kept}

-- the bytes that the source has left
abbrev pub source_left : MemSource → List ℕ
source_left s = drop s.at s.bytes.items

-- how many of its reads have failed
abbrev pub source_faults : MemSource → ℕ
source_faults s = s.plan.failed

-- how many reads were made
abbrev pub source_calls : MemSource → ℕ
source_calls s = s.plan.calls

-- the numbers of the reads that are to fail
abbrev pub source_plan : MemSource → List ℕ
source_plan s = s.plan.fail.items

-- how many bytes a read gives at most
abbrev pub source_piece : MemSource → ℕ
source_piece s = s.piece

-- the bytes that the sink has taken
abbrev pub sink_taken : MemSink → List ℕ
sink_taken s = s.taken.items

-- how many of its writes have failed
abbrev pub sink_faults : MemSink → ℕ
sink_faults s = s.plan.failed

-- how many bytes it can still take
abbrev pub sink_room : MemSink → ℕ
sink_room s = s.room - length s.taken.items

-- how many writes were made
abbrev pub sink_calls : MemSink → ℕ
sink_calls s = s.plan.calls

-- the numbers of the writes that are to fail
abbrev pub sink_plan : MemSink → List ℕ
sink_plan s = s.plan.fail.items

-- the bytes that are kept
abbrev pub kept_bytes : Kept → List ℕ
kept_bytes s = s.bytes.items

abbrev pub kept_faults : Kept → ℕ
kept_faults s = s.failed
