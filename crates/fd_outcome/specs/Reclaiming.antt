-- What `purge` and `wipe` tell of a dataset, and what they leave of the store.
use Rattle.std.specs.Prelude.{◌≡◌, ℕ, List, ◌++◌, codes, length, option_map, Option, Some, None, Result, Ok, Err}
use Rattle.std.specs.Fmt.{decimal}
use Rattle.fd_disk.specs.declared.folders.FileName.{FileName}
use Rattle.fd_disk.specs.Folders.{Contents, Holdings, Left, SameBut, folder_at}
use Rattle.fd_entries.specs.declared.table.Entry.{Entry}
use Rattle.fd_entries.specs.declared.table.NotATable.{NotATable}
use Rattle.fd_entries.specs.Table.{listed}
use Rattle.fd_purge.specs.Kept.{masked, unmasked}
use Rattle.fd_purge.specs.Stored.{IsLeftFirmly}
use Rattle.fd_purge.specs.Purging.{HasWiped, IsLeftByPurge, IsLeftByWipe, IsPurged, first_over, masks_of, read_of}
use Rattle.fd_listing.specs.Lines.{line}
use Rattle.fd_stored.specs.declared.status.Status.{Status}
use Rattle.fd_stored.specs.declared.status.Status.TheVariants.{Done, Missed, Words, Refused, InputFault, OutputFault, DiskFault, NoMemory, Damaged, Limit}
use Rattle.fd_stored.specs.Causes.{Cause, NoDataset, WriterTooGreat}

-- ---- what is told

-- `purged d kept k`
abbrev pub purged_line : ℕ → ℕ → List ℕ
purged_line dropped kept = line (codes "purged " ++ decimal dropped ++ codes " kept " ++ decimal kept)

-- `wiped n`
abbrev pub wiped_line : ℕ → List ℕ
wiped_line count = line (codes "wiped " ++ decimal count)

-- the line, unless a kept entry has a writer that is too great for its new place
abbrev pub unless_over : Option (ℕ × ℕ) → List ℕ → Result (List ℕ) Cause
unless_over None text = Ok text
unless_over (Some (entry, writer)) text = Err (WriterTooGreat entry writer)

-- how many of these entries later ones mask, and how many are kept
abbrev pub purge_text : (FileName → Option (List ℕ)) → List Entry → Result (List ℕ) Cause
purge_text files es = unless_over (first_over 0 0 (masks_of files es) es) (purged_line (length (masked (masks_of files es) es)) (length (unmasked (masks_of files es) es)))

-- What is told of the entries that a table lists; there is no such dataset where there is no table. Nothing is said where the
-- bytes are no table.
abbrev pub of_table : Option (Result (List Entry) NotATable) → (List Entry → Result (List ℕ) Cause) → Option (Result (List ℕ) Cause)
of_table None text = Some (Err NoDataset)
of_table (Some (Ok es)) text = Some (text es)
of_table (Some (Err fault)) text = None

abbrev pub purge_told : List ℕ → Contents → Option (Result (List ℕ) Cause)
purge_told dataset v = of_table (option_map (λ f. listed dataset f.reads) v.table) (purge_text v.files)

abbrev pub wipe_told : List ℕ → Contents → Option (Result (List ℕ) Cause)
wipe_told dataset v = of_table (option_map (λ f. listed dataset f.reads) v.table) (λ es. Ok (wiped_line (length es)))

-- ---- what is left

-- The schema and each other dataset are as they were, and of the dataset this stands.
pub record InDataset (dataset : List ℕ) (P : Contents → Contents → Type 0) (h i : Holdings) : Type 0 where
  pub others : SameBut dataset h i
  pub there : P (folder_at h dataset) (folder_at i dataset)

-- What each status says of the dataset: at 0 all is done, a refusal leaves it untouched, and else it may be under way.
abbrev pub LeavesReclaimed : (Contents → Contents → Type 0) → (Contents → Contents → Type 0) → Status → Contents → Contents → Type 0
LeavesReclaimed done under_way Done = done
LeavesReclaimed done under_way Missed = λ v w. ⊥
LeavesReclaimed done under_way Words = λ v w. ⊥
LeavesReclaimed done under_way Refused = λ v w. w ≡ v
LeavesReclaimed done under_way InputFault = λ v w. ⊥
LeavesReclaimed done under_way OutputFault = under_way
LeavesReclaimed done under_way DiskFault = under_way
LeavesReclaimed done under_way NoMemory = under_way
LeavesReclaimed done under_way Damaged = under_way
LeavesReclaimed done under_way Limit = under_way

-- The table, which is firm, lists the entries that no later ones mask, and there is no file of the others but those that a kept entry names too.
abbrev pub PurgeDone : List ℕ → Contents → Contents → Type 0
PurgeDone dataset v w = (dropped : ℕ) × (kept : ℕ) × IsPurged dataset v w dropped kept

-- What a read gives of the dataset is this, and so is what a crash leaves of it from now on, but where it is untouched.
pub record IsLeft (P : Left → Type 0) (v w : Contents) : Type 0 where
  pub reads : P (read_of w)
  pub images : IsLeftFirmly P v w

-- The table lists what it listed, and all files are there; or it lists the kept entries, whose files are there, and files of the
-- others may be left.
abbrev pub PurgeUnderWay : List ℕ → Contents → Contents → Type 0
PurgeUnderWay dataset v w = IsLeft (IsLeftByPurge dataset v) v w

-- There is no table, and no file that an entry named.
abbrev pub WipeDone : List ℕ → Contents → Contents → Type 0
WipeDone dataset v w = (count : ℕ) × HasWiped dataset v w count

-- The table lists what it listed, and all files are there; or there is none, and files may be left.
abbrev pub WipeUnderWay : List ℕ → Contents → Contents → Type 0
WipeUnderWay dataset v w = IsLeft (IsLeftByWipe dataset v) v w

abbrev pub LeavesPurged : Status → List ℕ → Contents → Contents → Type 0
LeavesPurged s dataset = LeavesReclaimed (PurgeDone dataset) (PurgeUnderWay dataset) s

abbrev pub LeavesWiped : Status → List ℕ → Contents → Contents → Type 0
LeavesWiped s dataset = LeavesReclaimed (WipeDone dataset) (WipeUnderWay dataset) s
