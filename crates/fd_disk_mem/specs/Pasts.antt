-- What a dataset in memory was since its folder was handed out, and what a crash at each moment might have left of it.
use Rattle.std.specs.Prelude.{◌≡◌, ◌⊎◌, ◌≤◌, ◌+◌, ◌-◌, min, ℕ, List, length, Option, Some, None, option_map}
use Rattle.fd_disk.specs.declared.folders.FileName.{FileName}
use Rattle.fd_disk.specs.Folders.{Left}
use Rattle.fd_file_mem.specs.Calls.{Memory}
use Rattle.fd_file_mem.specs.Past as calls
use Rattle.fd_file_mem.specs.declared.disk.MemDisk.{MemDisk}
use Rattle.fd_disk_mem.specs.Drawers.{below, bytes_in}
use Rattle.fd_disk_mem.specs.declared.drawers.Drawers.{Drawers}
use Rattle.fd_disk_mem.specs.declared.past.Past.{Past, Start, Renewed', Removed'}

-- the record of a table, where there is one
abbrev pub memory_of : Option MemDisk → Option Memory
memory_of table = option_map (λ d. d.file) table

-- the table that is out, or else the one that is here
abbrev pub table_in : Option MemDisk → Option MemDisk → Option Memory
table_in here (Some t) = Some t.file
table_in here None = memory_of here

abbrev pub calls_of : Option Memory → ℕ
calls_of None = 0
calls_of (Some m) = length m.calls

-- with how many calls of its table the present time begins
abbrev pub begins : Past → ℕ
begins Start = 0
begins (Renewed' d p rest) = 0
begins (Removed' d p rest) = calls_of (memory_of d)

-- how many moments came before
abbrev pub moments : Past → ℕ
moments Start = 0
moments (Renewed' d p rest) = moments rest + (length d.file.calls - begins rest) + 1
moments (Removed' d p rest) = moments rest + (calls_of (memory_of d) - begins rest) + 1

-- the clock, where this is the table
abbrev pub clock : Past → Option Memory → ℕ
clock p table = moments p + (calls_of table - begins p)

-- A crash at a moment from t on, of a time that began at moment s with the first calls, might have left this of the table.
abbrev pub IsTableSince : ℕ → ℕ → ℕ → Option Memory → Option (List ℕ) → Type 0
IsTableSince first s t None left = left ≡ None
IsTableSince first s t (Some m) (Some c) = calls.LeftSince m (min (length m.calls) (first + (t - s))) c
IsTableSince first s t (Some m) None = ⊥

pub record IsSince (first s t : ℕ) (table : Option Memory) (files : Drawers) (left : Left) : Type 0 where
  pub upto : t ≤ s + (calls_of table - first)
  pub table_is : IsTableSince first s t table left.table
  pub files_are : (n : FileName) → left.files n ≡ bytes_in files n

-- A crash at some moment from t on might have left this: in the present time, or before the table was renewed, or before a file
-- was removed.
abbrev pub LeftFrom : Past → Option Memory → Drawers → ℕ → Left → Type 0
LeftFrom Start table files t left = IsSince 0 0 t table files left
LeftFrom (Renewed' d p rest) table files t left = IsSince 0 (moments (Renewed' d p rest)) t table files left ⊎ LeftFrom rest (Some d.file) files t left
LeftFrom (Removed' d p rest) table files t left = IsSince (begins (Removed' d p rest)) (moments (Removed' d p rest)) t table files left ⊎ LeftFrom rest (memory_of d) (below files) t left
