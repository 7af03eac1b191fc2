-- A dataset of which a change of its files was tried.
use Rattle.std.specs.Prelude.{◌≡◌, ◌⊎◌, Result, true, false, OnOk, OnErr}
use Rattle.fd_untold.specs.declared.folder.UntoldFolder.{UntoldFolder}

-- All but what may be lost is as it was. It was done only where the table's name was not lost, and after an error nothing is
-- lost, or the name is.
pub record IsTried {P T E : Type 0} (before now : UntoldFolder P) (result : Result T E) : Type 0 where
  pub out : now.table_out ≡ before.table_out
  pub last_writer : now.last_writer ≡ before.last_writer
  pub name : now.name ≡ before.name
  pub faults : now.faults ≡ before.faults
  pub sound : OnOk result (before.unsynced.is_name_lost ≡ false)
  pub lost : OnErr result ((now.unsynced ≡ before.unsynced) ⊎ (now.unsynced.is_name_lost ≡ true))
