-- A call that only looks at the files of a folder.
use Rattle.std.specs.Prelude.{◌≡◌, ◌≤◌}
use Rattle.fd_disk.specs.declared.shelves.Folder as folders
use Rattle.fd_disk.specs.Renewals.{StandsStill}

-- From the one state of a folder to the other its files were only looked at: it has what it had, no moment came, and nothing but its count
-- of faults may have changed.
pub record OnlyLooked {D F A B C E G H J : Type 0} (says : folders.Ghosts D F A B C E G H J) (old new : D) : Type 0 where
  pub has : says.has new ≡ says.has old
  pub out : says.table_out new ≡ says.table_out old
  pub last_writer : says.last_writer new ≡ says.last_writer old
  pub name : says.name new ≡ says.name old
  pub time : (out : _) → StandsStill (says.moment old out) (says.moment new out) (says.left_since old out) (says.left_since new out)
  pub later : says.faults old ≤ says.faults new
