-- What contracts see of a table of contents that is held open.
use Rattle.std.specs.Prelude.{ℕ, List, Option}
use Rattle.fd_entries.specs.declared.table.Entry.{Entry}

pub record OpenTable (T : Type 0) : Type 0 where
  pub table : T
  -- the dataset's text
  pub dataset : List ℕ
  -- the entries that are listed
  pub entries : List Entry
  -- the entry whose gate a crash may leave open or closed
  pub doubt : Option Entry
  -- the entry whose body was written last, and whose gate isn't open
  pub staged : Option Entry
  -- how many entries may be added without taking memory
  pub spare : ℕ
