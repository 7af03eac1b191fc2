-- What the steps of a renewal leave of a dataset in memory.
use Rattle.std.specs.Prelude.{◌≡◌}
use Rattle.fd_disk_mem.specs.declared.folder.MemFolder.{MemFolder}

-- its table, its files and its past are what they were, and so are its name and its last writer
pub record HoldsStill (before now : MemFolder) : Type 0 where
  pub table : now.table ≡ before.table
  pub out : now.table_out ≡ before.table_out
  pub files : now.files ≡ before.files
  pub past : now.past ≡ before.past
  pub last_writer : now.last_writer ≡ before.last_writer
  pub name : now.name ≡ before.name
