-- What a command that ran has done.
use Rattle.std.specs.Prelude.{◌≡◌, ◌⊎◌, ℕ, List}
use Rattle.fd_io.specs.Streams.{Takes}
use Rattle.fd_stored.specs.Causes.{table_full}
use Rattle.fd_disk.specs.Folders.{Holdings, WhereTold}
use Rattle.fd_words.specs.declared.command.Command.{Command}
use Rattle.fd_stored.specs.declared.status.Status.{Status}
use Rattle.fd_stored.specs.declared.status.Status.TheVariants.{Done, Missed, Words, InputFault, OutputFault, DiskFault}
use Rattle.fd_outcome.specs.Objects.{Object, Failed}
use Rattle.fd_outcome.specs.Ends.{Runs, Leaves, ReadsOut, Calm}

-- The status, by what the command makes of its input and of the store.
pub record Ran (command : Command) (s : Status) (store : Object Holdings) (input output report : Object (List ℕ)) : Type 0 where
  pub ends : Runs command s store input output report
  pub store_is : WhereTold store.before store.now (Leaves command s (¬ (Failed store)) (Takes report.before report.now table_full) input.before input.now)
  pub words : ¬ (s ≡ Words)
  pub to_end : ((s ≡ Done) ⊎ (s ≡ Missed)) → ReadsOut command input.before input.now
  pub calm : Calm command s input output report
  pub input_fault : s ≡ InputFault → Failed input
  pub output_fault : s ≡ OutputFault → Failed output ⊎ Failed report
  pub disk_fault : s ≡ DiskFault → Failed store
