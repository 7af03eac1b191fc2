-- What contracts see of a store in memory, of a dataset that is out, and of a writer's shelf.
use Rattle.std.specs.Prelude.{ℕ, Bool, List, Option, string_bytes}
use Rattle.fd_disk.specs.Folders.{Contents, Left}
use Rattle.fd_disk.specs.declared.folders.FileName.{FileName}
use Rattle.fd_file_mem.specs.declared.disk.MemDisk.{MemDisk}
use Rattle.fd_file_mem.specs.declared.plan.Plan.{Plan}
use Rattle.fd_file_mem.specs.declared.plan.Plans.{Plans}
use Rattle.fd_file_mem.specs.declared.recorded.Room.{Room}
use Rattle.fd_disk_mem.specs.declared.folder.MemFolder.{MemFolder}
use Rattle.fd_disk_mem.specs.declared.shelf.MemShelf.{MemShelf}
use Rattle.fd_disk_mem.specs.declared.store.MemStore.{MemStore}
use Rattle.fd_disk_mem.specs.Drawers.{bytes_among, is_named}
use Rattle.fd_disk_mem.specs.Pasts.{LeftFrom, clock, table_in}
use Rattle.fd_disk_mem.specs.Slots.{contents_of}

abbrev pub folder_contents : MemFolder → Contents
folder_contents d = contents_of d.table d.files

abbrev pub folder_table : MemFolder → Option MemDisk
folder_table d = d.table

-- the table is out
abbrev pub folder_out : MemFolder → Bool
folder_out d = d.table_out

abbrev pub folder_name : MemFolder → List ℕ
folder_name d = string_bytes d.name

-- the greatest number of a writer that has a shelf
abbrev pub folder_last_writer : MemFolder → ℕ
folder_last_writer d = d.last_writer

-- the clock, with the table that is out, where one is
abbrev pub folder_moment : MemFolder → Option MemDisk → ℕ
folder_moment d out = clock d.past (table_in d.table out)

-- a crash at some moment from the given one on might have left this
abbrev pub FolderLeftFrom : MemFolder → Option MemDisk → ℕ → Left → Type 0
FolderLeftFrom d out = LeftFrom d.past (table_in d.table out) d.files

-- the calls of its table that are to fail
abbrev pub folder_plan : MemFolder → Plan
folder_plan d = d.plan

-- those of its files
abbrev pub folder_plans : MemFolder → Plans
folder_plans d = d.plans

-- how much each file may have
abbrev pub folder_room : MemFolder → Room
folder_room d = d.room

abbrev pub folder_faults : MemFolder → ℕ
folder_faults d = d.faults

-- the bytes of the files that it keeps
abbrev pub shelf_kept : MemShelf → FileName → Option (List ℕ)
shelf_kept s = bytes_among s.kept.items

-- it created a file of this name
abbrev pub shelf_created : MemShelf → FileName → Bool
shelf_created s = is_named s.kept.items

abbrev pub shelf_writer : MemShelf → ℕ
shelf_writer s = s.writer

abbrev pub shelf_name : MemShelf → List ℕ
shelf_name s = string_bytes s.name

-- the calls of its files that are to fail
abbrev pub shelf_plans : MemShelf → Plans
shelf_plans s = s.plans

-- how much each file may have
abbrev pub shelf_room : MemShelf → Room
shelf_room s = s.room

abbrev pub shelf_faults : MemShelf → ℕ
shelf_faults s = s.faults

-- the calls of the schema that are to fail
abbrev pub store_plan : MemStore → Plan
store_plan s = s.plan

-- those of all files
abbrev pub store_plans : MemStore → Plans
store_plans s = s.plans

-- how much each file may have
abbrev pub store_room : MemStore → Room
store_room s = s.room

abbrev pub store_faults : MemStore → ℕ
store_faults s = s.faults
