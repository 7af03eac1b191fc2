-- The lines of datasets by the records of their indexes alone, whatever their fields are.
use Rattle.std.specs.Prelude.{◌≡◌, ℕ, List, [], map, MatchOption, Option, Some, IfSome, Ok}
use Rattle.std.specs.List.{AllZip, concat}
use Rattle.fd_io.specs.Streams.{Takes}
use Rattle.fd_disk.specs.Folders.{Contents, Holdings, folder_at}
use Rattle.fd_entries.specs.declared.batch.Pair.{Pair}
use Rattle.fd_entries.specs.declared.table.Entry.{Entry}
use Rattle.fd_entries.specs.Table.{listed}
use Rattle.fd_recovery.specs.Recovered.{files_of}
use Rattle.fd_request.specs.Expansion.{Keyword}
use Rattle.fd_inventory.specs.Recorded.{IsRecorded}
use Rattle.fd_words.specs.declared.command.Command.{Command}
use Rattle.fd_words.specs.declared.command.Command.TheVariants as commands
use Rattle.fd_stored.specs.declared.status.Status.{Status}
use Rattle.fd_stored.specs.declared.status.Status.TheVariants.{Done}
use Rattle.fd_outcome.specs.Objects.{Object}
use Rattle.fd_outcome.specs.Outcome.{stats_of}
use Rattle.fd_outcome.specs.Rows.{axes_text, list_text}
use Rattle.fd_stored.specs.Store.{AreNames, entries_in}
use Rattle.fd_contents.specs.Asked.{asked_in}

-- These are the batches of the entries that the dataset's table lists, by the records of their indexes: each has the keys of these, and
-- as many bytes at each as they say. There are none where there is no table.
abbrev pub AreRecordedIn : List ℕ → Contents → List (List Pair) → Type 0
AreRecordedIn name v t = MatchOption v.table (t ≡ []) (λ f. (es : List Entry) × (listed name f.reads ≡ Ok es) × AllZip IsRecorded (map (files_of v.files) es) t)

-- such batches give this text
abbrev pub IsOfRecords : (Holdings → List ℕ → List (List Pair) → Option (List ℕ)) → Holdings → List ℕ → List ℕ → Type 0
IsOfRecords text h name x = (t : List (List Pair)) × AreRecordedIn name (folder_at h name) t × (text h name t ≡ Some x)

-- for each dataset, in their order, such a text was printed
abbrev pub PrintedByRecords : (Holdings → List ℕ → List (List Pair) → Option (List ℕ)) → Holdings → List (List ℕ) → Option (List ℕ) → Option (List ℕ) → Type 0
PrintedByRecords text h names a b = (xs : List (List ℕ)) × AllZip (IsOfRecords text h) names xs × Takes a b (concat xs)

-- What `list` and `axes` print at 0, where the input and the store tell: for each dataset the lines of its keys that are asked for.
abbrev pub ListsRecords : (List Keyword → List ℕ → List (List Pair) → List ℕ) → Status → Option (List ℕ) → Option Holdings → Object (List ℕ) → Type 0
ListsRecords text s input store output = s ≡ Done → IfSome input (λ octets. IfSome store (λ h. (names : List (List ℕ)) (keywords : List Keyword) → AreNames h names → asked_in h octets ≡ Ok keywords
    → PrintedByRecords (λ h name t. Some (text keywords name t)) h names output.before output.now))

-- What `stats` prints at 0, where the store tells: for each dataset that has a table its line.
abbrev pub CountsRecords : Status → Option Holdings → Object (List ℕ) → Type 0
CountsRecords s store output = s ≡ Done → IfSome store (λ h. (names : List (List ℕ)) → AreNames h names → PrintedByRecords (λ h name t. stats_of name (entries_in name (folder_at h name).table) (Some t)) h names output.before output.now)

-- The same by the command: of another than these nothing is said here.
abbrev pub PrintsRecords : Command → Status → Object Holdings → Object (List ℕ) → Object (List ℕ) → Type 0
PrintsRecords (commands.Pick wanted) s store input output = Unit {0}
PrintsRecords commands.Describe s store input output = Unit {0}
PrintsRecords commands.Split s store input output = Unit {0}
PrintsRecords (commands.Values decimals) s store input output = Unit {0}
PrintsRecords (commands.Generate count) s store input output = Unit {0}
PrintsRecords (commands.Create root) s store input output = Unit {0}
PrintsRecords (commands.Archive root given workers) s store input output = Unit {0}
PrintsRecords (commands.Retrieve root workers) s store input output = Unit {0}
PrintsRecords (commands.RetrieveOver root layers workers) s store input output = Unit {0}
PrintsRecords (commands.List root) s store input output = ListsRecords list_text s input.before store.before output
PrintsRecords (commands.Axes root) s store input output = ListsRecords axes_text s input.before store.before output
PrintsRecords (commands.Stats root) s store input output = CountsRecords s store.before output
PrintsRecords (commands.Cubes root) s store input output = Unit {0}
PrintsRecords (commands.Session root) s store input output = Unit {0}
PrintsRecords (commands.Purge root dataset) s store input output = Unit {0}
PrintsRecords (commands.Wipe root dataset) s store input output = Unit {0}
PrintsRecords (commands.Trial root count workers) s store input output = Unit {0}
