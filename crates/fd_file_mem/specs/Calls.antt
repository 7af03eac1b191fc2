-- A file in memory is what its calls have made of it.
use Rattle.std.specs.Prelude.{◌+◌, ◌-◌, ◌*◌, ◌^◌, ◌&&◌, ℕ, Bool, true, false, max, min, nat_le, nat_lt, List, [], ◌∷◌, ◌++◌, length, take, drop}
use Rattle.fd_disk.specs.declared.file.File.{File}
use Rattle.fd_disk.specs.Images.{written, synced, loosened, firm_file}
use Rattle.fd_file_mem.specs.declared.recorded.Mark.{Mark}
use Rattle.fd_file_mem.specs.declared.recorded.Mark.TheVariants as mark
use Rattle.fd_file_mem.specs.declared.recorded.Room.{Room}

-- A call that changed what a crash may leave.
pub data Call : Type 0 where
  Wrote : (at : ℕ) (bytes : List ℕ) → Call
  -- a write that failed
  Failed : (at len : ℕ) → Call
  Synced : Call

-- A file in memory: the firm bytes with which it began, its calls since, and its room.
pub record Memory : Type 0 where
  pub start : List ℕ
  pub calls : List Call
  -- how many bytes it may have
  pub size : ℕ
  -- how many calls its record has room for, and how many bytes of writes
  pub most_calls : ℕ
  pub most_bytes : ℕ

-- an empty file, with the room that was asked for
abbrev pub new_file : Room → Memory
new_file r = record { start = []; calls = []; size = r.size; most_calls = r.calls; most_bytes = min (2 * r.size) (2 ^ 64 - 1) }

abbrev pub called : File → Call → File
called f (Wrote at bytes) = written f at bytes
called f (Failed at len) = loosened f at len f.reads
called f Synced = synced f

abbrev pub replayed : File → List Call → File
replayed f [] = f
replayed f (c ∷ cs) = replayed (called f c) cs

-- the file as it stands
abbrev pub file_after : List ℕ → List Call → File
file_after start calls = replayed (firm_file start) calls

abbrev pub file_of : Memory → File
file_of m = file_after m.start m.calls

-- the last write was followed by a sync
abbrev pub synced_by : Bool → List Call → Bool
synced_by b [] = b
synced_by b (Wrote at bytes ∷ cs) = synced_by false cs
synced_by b (Failed at len ∷ cs) = synced_by false cs
synced_by b (Synced ∷ cs) = synced_by true cs

-- the greatest end of a write
abbrev pub extent_by : ℕ → List Call → ℕ
extent_by n [] = n
extent_by n (Wrote at bytes ∷ cs) = extent_by (max n (at + length bytes)) cs
extent_by n (Failed at len ∷ cs) = extent_by n cs
extent_by n (Synced ∷ cs) = extent_by n cs

-- how many bytes its writes have
abbrev pub bytes_by : List Call → ℕ
bytes_by [] = 0
bytes_by (Wrote at bytes ∷ cs) = length bytes + bytes_by cs
bytes_by (Failed at len ∷ cs) = bytes_by cs
bytes_by (Synced ∷ cs) = bytes_by cs

-- the record has room for one call more
abbrev pub has_room : Memory → Bool
has_room m = nat_lt (length m.calls) m.most_calls

-- file and record have room for a write of so many bytes
abbrev pub fits : Memory → ℕ → ℕ → Bool
fits m at len = nat_le (at + len) m.size && (has_room m && nat_le (bytes_by m.calls + len) m.most_bytes)

abbrev pub with_call : Memory → Call → Memory
with_call m c = record { start = m.start; calls = m.calls ++ c ∷ []; size = m.size; most_calls = m.most_calls; most_bytes = m.most_bytes }

-- a firm file of these bytes, in the room that was there
abbrev pub begun : Memory → List ℕ → Memory
begun m bytes = record { start = bytes; calls = []; size = m.size; most_calls = m.most_calls; most_bytes = m.most_bytes }

-- The calls as they are kept: the bytes of all writes stand one after the other.
abbrev pub with_bytes : List Mark → List ℕ → List Call
with_bytes [] bytes = []
with_bytes (mark.Wrote at len ∷ ms) bytes = Wrote at (take len bytes) ∷ with_bytes ms (drop len bytes)
with_bytes (mark.Failed at len ∷ ms) bytes = Failed at len ∷ with_bytes ms bytes
with_bytes (mark.Synced ∷ ms) bytes = Synced ∷ with_bytes ms bytes

abbrev pub bytes_in : List Mark → ℕ
bytes_in [] = 0
bytes_in (mark.Wrote at len ∷ ms) = len + bytes_in ms
bytes_in (mark.Failed at len ∷ ms) = bytes_in ms
bytes_in (mark.Synced ∷ ms) = bytes_in ms
