-- What contracts see of a file over a system's files, and of a dataset.
use Rattle.std.specs.Prelude.{ℕ, Bool, List, string_bytes}
use Rattle.fd_unsynced.specs.declared.unsynced.Unsynced.{Unsynced}
use Rattle.fd_untold.specs.declared.disk.UntoldDisk.{UntoldDisk}
use Rattle.fd_untold.specs.declared.folder.UntoldFolder.{UntoldFolder}

-- a sync answered well, and no write was asked for since
abbrev pub disk_synced : {D : Type 0} → UntoldDisk D → Bool
disk_synced d = d.is_synced

-- where the longest write ended
abbrev pub disk_extent : {D : Type 0} → UntoldDisk D → ℕ
disk_extent d = d.extent

-- what of the file may not be firm
abbrev pub disk_unsynced : {D : Type 0} → UntoldDisk D → Unsynced
disk_unsynced d = d.file.unsynced

abbrev pub disk_faults : {D : Type 0} → UntoldDisk D → ℕ
disk_faults d = d.faults

-- the table is out
abbrev pub folder_out : {P : Type 0} → UntoldFolder P → Bool
folder_out d = d.table_out

-- the writer that got a shelf last
abbrev pub folder_last_writer : {P : Type 0} → UntoldFolder P → ℕ
folder_last_writer d = d.last_writer

abbrev pub folder_name : {P : Type 0} → UntoldFolder P → List ℕ
folder_name d = string_bytes d.name

-- what of the table may not be firm
abbrev pub folder_unsynced : {P : Type 0} → UntoldFolder P → Unsynced
folder_unsynced d = d.unsynced

abbrev pub folder_faults : {P : Type 0} → UntoldFolder P → ℕ
folder_faults d = d.faults
