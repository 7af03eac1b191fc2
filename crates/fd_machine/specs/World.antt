-- What contracts see of the machine's state.
use Rattle.std.specs.Prelude.{ℕ, Bool, List, Option}
use Rattle.fd_disk.specs.declared.file.File.{File}
use Rattle.fd_entries.specs.declared.table.Entry.{Entry}
use Rattle.fd_entries.specs.declared.batch.Pair.{Pair}
use Rattle.fd_machine.specs.declared.machine.NamedFile.{NamedFile}
use Rattle.fd_machine.specs.declared.machine.Writer.{Writer}
use Rattle.fd_machine.specs.declared.machine.Seen.{Seen}

pub record World : Type 0 where
  pub table : File
  pub files : List NamedFile
  pub history : List (List Pair)
  pub writers : List Writer
  pub owner : Option ℕ
  pub doubt : Option Entry
  pub readers : List Seen
  pub down : Bool
