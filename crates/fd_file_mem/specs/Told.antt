-- What contracts see of a file in memory, of one that is sealed, and of its reader.
use Rattle.std.specs.Prelude.{ℕ, List, Option}
use Rattle.std.specs.Global.{Vec}
use Rattle.fd_disk.specs.declared.folders.FileName.{FileName}
use Rattle.fd_file_mem.specs.Calls.{Memory}
use Rattle.fd_file_mem.specs.declared.disk.MemDisk.{MemDisk}
use Rattle.fd_file_mem.specs.declared.plan.Plan.{Plan}
use Rattle.fd_file_mem.specs.declared.sealed.MemReader.{MemReader}
use Rattle.fd_file_mem.specs.declared.sealed.MemSealed.{MemSealed}

-- what was done to the file
abbrev pub disk_memory : MemDisk → Memory
disk_memory d = d.file

abbrev pub disk_name : MemDisk → Vec ℕ
disk_name d = d.name

-- the name under which a shelf made it, where one did
abbrev pub disk_made : MemDisk → Option FileName
disk_made d = d.made

-- its calls that are to fail
abbrev pub disk_plan : MemDisk → Plan
disk_plan d = d.plan

abbrev pub disk_faults : MemDisk → ℕ
disk_faults d = d.faults

abbrev pub sealed_bytes : MemSealed → Vec ℕ
sealed_bytes z = z.bytes

abbrev pub sealed_name : MemSealed → Vec ℕ
sealed_name z = z.name

abbrev pub sealed_made : MemSealed → Option FileName
sealed_made z = z.made

-- the calls of its readers that are to fail
abbrev pub sealed_plan : MemSealed → Plan
sealed_plan z = z.plan

abbrev pub reader_bytes : MemReader → List ℕ
reader_bytes r = r.bytes.items

abbrev pub reader_plan : MemReader → Plan
reader_plan r = r.plan

abbrev pub reader_faults : MemReader → ℕ
reader_faults r = r.faults

-- how many reads there were
abbrev pub reader_reads : MemReader → ℕ
reader_reads r = r.reads

-- how many bytes they asked for
abbrev pub reader_asked : MemReader → ℕ
reader_asked r = r.asked
