-- What a run of the program has done, for the words behind its name.
use Rattle.std.specs.Prelude.{◌≡◌, ◌⊎◌, ℕ, List, Option, None, IfSome, MatchOption}
use Rattle.fd_disk.specs.Folders.{Holdings, WhereTold}
use Rattle.fd_io.specs.Streams.{Takes}
use Rattle.fd_words.specs.Words.{command_of}
use Rattle.fd_words.specs.declared.command.Command.{Command}
use Rattle.fd_stored.specs.declared.status.Status.{Status}
use Rattle.fd_stored.specs.declared.status.Status.TheVariants.{Done, Missed, Words, InputFault, OutputFault, DiskFault}
use Rattle.fd_stored.specs.Causes.{table_full}
use Rattle.fd_stored.specs.Codes.{code_of}
use Rattle.fd_outcome.specs.Ends.{Runs, EndsUnasked, ReadsOut, StoresFields, Calm, Completes, Leaves}
use Rattle.fd_outcome.specs.Noticing.{AnswersFirmly, IsAnswering, Notices, ReadsFitly}
use Rattle.fd_stored.specs.Sparing.{SparesDamaged}
use Rattle.fd_outcome.specs.Objects.{Failed, Object}
use Rattle.fd_outcome.specs.Ran.{Ran}
use Rattle.fd_archive.specs.Crashing.{OutlastsCrash}
use Rattle.fd_contents.specs.Cubing.{CubesRan, OfCubes}
use Rattle.fd_contents.specs.Recorded.{PrintsRecords}
use Rattle.fd_session.specs.Sessions.{OfSession, SessionRan}

-- What a command has done: the facts of `Served` below, of this command.
pub record CommandRan (F : Type 0) (command : Command) (s : Status) (store : Object Holdings)
    (input output report : Object (List ℕ)) : Type 0 where
  pub ran : Ran command s store input output report
  pub outlasts : OutlastsCrash command s store input report
  pub firm : IsAnswering command → AnswersFirmly command s store input
  pub spares : StoresFields command → WhereTold store.before store.now SparesDamaged
  pub notices : Notices command s store input output report
  pub unread : ReadsFitly command store input
  pub session : OfSession command (SessionRan F s store input output report)
  pub cubes : OfCubes command (λ root. CubesRan root s store input output report)
  pub recorded : PrintsRecords command s store input output

-- What `fdb` promises of a run that ended with this status, where the words ask for this command, or are none. `kept` is the store,
-- `read` the input, `written` the output, and `told` the report.
pub record Served (F : Type 0) (asked : Option Command) (s : Status) (kept : Object Holdings)
    (read written told : Object (List ℕ)) : Type 0 where
  -- The words are refused only where they are no command.
  pub words : s ≡ Words → asked ≡ None
  -- What each status tells of the words, of the input, of the store, and of what was written: for a command, by what it makes of its
  -- input and of the store; where the words are no command, the usage line.
  pub ends : MatchOption asked (EndsUnasked s written told) (λ command. Runs command s kept read written told)
  -- Where no count of faults rose, a command ends as its input and its store say, or memory ran out.
  pub complete : ¬ (Failed read) → ¬ (Failed written) → ¬ (Failed told) → ¬ (Failed kept)
      → IfSome asked (λ command. Completes command s read.before kept.before kept.now)
  -- What becomes of the store, where it tells.
  pub store : WhereTold kept.before kept.now (λ h i. MatchOption asked (i ≡ h)
      (λ command. Leaves command s (¬ (Failed kept)) (Takes told.before told.now table_full) read.before read.now h i))
  -- What an archive or a trial tells to be stored outlasts a crash: each store that it may leave has it. And whatever is told, each
  -- dataset holds there what it held, and behind it few batches of the messages alone.
  pub outlasts : IfSome asked (λ command. OutlastsCrash command s kept read told)
  -- What a command that reads told outlasts a crash: at 0 and 1 each dataset that it opened has a firm table, or none.
  pub firm : IfSome asked (λ command. IsAnswering command → AnswersFirmly command s kept read)
  -- A dataset that is damaged so has its files after a command that stores fields, and its table as it was, or synced.
  pub spares : IfSome asked (λ command. StoresFields command → WhereTold kept.before kept.now SparesDamaged)
  -- At 0 and 1, also where a dataset that it opens is damaged: of none of them the table is none, or a file absent or too short, or an
  -- index of another digest, since these are told; and each key, or each dataset, of a sound dataset is answered by that.
  pub notices : IfSome asked (λ command. Notices command s kept read written told)
  -- Where the stored schema doesn't let the command begin, nothing of the input is read.
  pub unread : IfSome asked (λ command. ReadsFitly command kept read)
  -- At 0 and 1 the input was read to its end, where the command reads it.
  pub to_end : ((s ≡ Done) ⊎ (s ≡ Missed)) → IfSome asked (λ command. ReadsOut command read.before read.now)
  -- At 0, 1, 3 and 9 no read of the input and no write of the output failed; but for 9 by a full table, which is told in the place of
  -- a failed read.
  pub calm : IfSome asked (λ command. Calm command s read written told)
  -- A session of a script: why no lane ran, or how the steps of its lanes ended, over the table before and the batches that were
  -- listed, and what the store holds then.
  pub session : IfSome asked (λ command. OfSession command (SessionRan F s kept read written told))
  -- The cubes that are printed: each key that matches is a key of exactly one of the lines, and the lines have no others; they stand in
  -- byte order, each is read as the request that its cube is, and no two of the cubes can be joined. Or why there are none. The keys
  -- are those of each sound dataset, and of a damaged one those that the records of its indexes say.
  pub cubes : IfSome asked (λ command. OfCubes command (λ root. CubesRan root s kept read written told))
  -- What `list`, `axes` and `stats` print at 0, whatever is damaged in the fields: of each dataset the lines of batches that have the
  -- keys, and as many bytes at each, as the records of its indexes say.
  pub recorded : IfSome asked (λ command. PrintsRecords command s kept read written)
  -- A fault of the input is told only where its count of faults rose,
  pub input_fault : s ≡ InputFault → Failed read
  -- a fault of the output only where its count rose, or the report's,
  pub output_fault : s ≡ OutputFault → Failed written ⊎ Failed told
  -- and a fault of the store only where its count rose.
  pub disk_fault : s ≡ DiskFault → Failed kept

-- A run that ended with this exit status: it is that of one of the statuses, with which the run ended.
pub record ServedAs (F : Type 0) (words : List (List ℕ)) (number : ℕ) (store : Object Holdings)
    (input output report : Object (List ℕ)) : Type 0 where
  pub status : Status
  pub number_is : number ≡ code_of status
  pub served : Served F (command_of words) status store input output report
