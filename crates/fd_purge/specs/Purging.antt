-- What a purge and a wipe leave of a dataset.
use Rattle.std.specs.Prelude.{◌≡◌, ◌⊎◌, ◌≤◌, ◌+◌, ◌&&◌, ◌||◌, ◌==◌, not, if◌then◌else◌, Bool, true, false, ℕ, List, [], ◌∷◌, length, map, nat_lt, Option, Some, None, Result, Ok, Err, IfSome, option_map, Contains}
use Rattle.fd_disk.specs.declared.file.File.{File}
use Rattle.fd_disk.specs.declared.folders.FileName.{FileName}
use Rattle.fd_disk.specs.Folders.{Contents, Left}
use Rattle.fd_disk.specs.Images.{firm_file}
use Rattle.fd_disk.specs.Renewals.{MayLeaveFolder}
use Rattle.fd_entries.specs.declared.batch.Pair.{Pair}
use Rattle.fd_entries.specs.declared.table.Entry.{Entry}
use Rattle.fd_entries.specs.Table.{greatest_writer, listed}
use Rattle.fd_index.specs.Records.{Record, keys}
pub use Rattle.fd_recovery.specs.Crashing.{read_of}
use Rattle.fd_recovery.specs.Damages.{IsFirst, damages, index_file}
use Rattle.fd_recovery.specs.Recovered.{WithTable, held, held_by}
use Rattle.fd_segment.specs.declared.fault.Damage.{Damage}
use Rattle.fd_segment.specs.Causes.{IsBadIndex}
use Rattle.fd_segment.specs.Held.{records_in}
use Rattle.fd_purge.specs.Kept.{kept, masks, masked, unmasked}

-- ---- the keys of an entry

abbrev pub keys_read : Result (List Record) ℕ → List (List ℕ)
keys_read (Ok rs) = keys rs
keys_read (Err at) = []

abbrev pub keys_from : Entry → Option (List ℕ) → List (List ℕ)
keys_from e None = []
keys_from e (Some bytes) = keys_read (records_in e bytes)

-- the keys of an entry, by its index file
abbrev pub keys_at : (FileName → Option (List ℕ)) → Entry → List (List ℕ)
keys_at files e = keys_from e (files (index_file e))

-- for each entry, whether later ones mask it
abbrev pub masks_of : (FileName → Option (List ℕ)) → List Entry → List Bool
masks_of files es = masks (map (keys_at files) es)

-- the first entry that is kept and whose writer is greater than the new table allows at its place, with its number in the old
-- table; so many entries stand before these, and so many of them are kept
abbrev pub first_over : ℕ → ℕ → List Bool → List Entry → Option (ℕ × ℕ)
first_over before kept [] es = None
first_over before kept (m ∷ ms) [] = None
first_over before kept (m ∷ ms) (e ∷ es) =
    if m then first_over (before + 1) kept ms es
    else (if nat_lt (greatest_writer kept) e.writer then Some (before + 1, e.writer) else first_over (before + 1) (kept + 1) ms es)

-- ---- files

-- the entry's files have this writer and this number
abbrev pub names : Entry → FileName → Bool
names e n = (e.writer == n.writer) && (e.seq == n.seq)

-- one of the entries names the file
abbrev pub are_named : List Entry → FileName → Bool
are_named [] n = false
are_named (e ∷ es) n = names e n || are_named es n

-- a file of a dropped entry that no kept entry names
abbrev pub is_gone : List Entry → List Entry → FileName → Bool
is_gone dropped kept n = are_named dropped n && not (are_named kept n)

abbrev pub without : List Entry → List Entry → (FileName → Option (List ℕ)) → FileName → Option (List ℕ)
without dropped kept files n = if is_gone dropped kept n then None else files n

-- each file is as it was, but for those of dropped entries, which may be gone
abbrev pub AreThinned : List Entry → List Entry → (FileName → Option (List ℕ)) → (FileName → Option (List ℕ)) → Type 0
AreThinned dropped kept files now = (n : FileName) → (now n ≡ files n) ⊎ ((is_gone dropped kept n ≡ true) × (now n ≡ None))

-- ---- what is left

-- the bytes of a table list these entries
abbrev pub TableLists : List ℕ → List Entry → Option (List ℕ) → Type 0
TableLists dataset es (Some bytes) = listed dataset bytes ≡ Ok es
TableLists dataset es None = ⊥

-- all that a read gave
pub record IsWhole (v : Contents) (left : Left) : Type 0 where
  pub table : left.table ≡ option_map (λ f. f.reads) v.table
  pub files : (n : FileName) → left.files n ≡ v.files n

-- the table without the masked entries, and the files of the others
pub record IsThinned (dataset : List ℕ) (v : Contents) (left : Left) : Type 0 where
  pub file : File
  pub is : v.table ≡ Some file
  pub entries : List Entry
  pub lists : listed dataset file.reads ≡ Ok entries
  pub table : TableLists dataset (unmasked (masks_of v.files entries) entries) left.table
  pub files : AreThinned (masked (masks_of v.files entries) entries) (unmasked (masks_of v.files entries) entries) v.files left.files

-- A purge leaves this, at each moment once its table is firm.
abbrev pub IsLeftByPurge : List ℕ → Contents → Left → Type 0
IsLeftByPurge dataset v left = IsWhole v left ⊎ IsThinned dataset v left

-- no table, and the files that no entry names
pub record IsWiped (dataset : List ℕ) (v : Contents) (left : Left) : Type 0 where
  pub file : File
  pub is : v.table ≡ Some file
  pub entries : List Entry
  pub lists : listed dataset file.reads ≡ Ok entries
  pub table : left.table ≡ None
  pub files : AreThinned entries [] v.files left.files

abbrev pub IsLeftByWipe : List ℕ → Contents → Left → Type 0
IsLeftByWipe dataset v left = IsWhole v left ⊎ IsWiped dataset v left

-- A call was made of a dataset whose table it first made firm. Until then it wrote nothing, so that a crash left what one
-- before it leaves, and from then on a crash leaves only what has P.
pub record IsFirmFrom (before now : ℕ) (since : ℕ → Left → Type 0) (v : Contents) (P : Left → Type 0) : Type 0 where
  pub firm : ℕ
  pub later : before ≤ firm
  pub upto : firm ≤ now
  pub until : (left : Left) → since before left → MayLeaveFolder (Some v) left ⊎ since firm left
  pub from : (left : Left) → since firm left → P left

-- It wrote nothing and made nothing firm.
pub record IsUntouched (before now : ℕ) (since : ℕ → Left → Type 0) (v w : Contents) : Type 0 where
  pub later : before ≤ now
  pub same : w ≡ v
  pub images : (left : Left) → since before left → MayLeaveFolder (Some v) left

abbrev pub IsSafe : ℕ → ℕ → (ℕ → Left → Type 0) → Contents → Contents → (Left → Type 0) → Type 0
IsSafe before now since v w P = IsUntouched before now since v w ⊎ IsFirmFrom before now since v P

-- ---- after a success

-- what a purge that succeeded made of a dataset with a table: it lists the entries that no later ones mask, and has no file of
-- the others but those that a kept entry names too
pub record IsPurged (dataset : List ℕ) (v w : Contents) (dropped kept : ℕ) : Type 0 where
  pub file : File
  pub is : v.table ≡ Some file
  pub entries : List Entry
  pub lists : listed dataset file.reads ≡ Ok entries
  pub after : List ℕ
  pub table : w.table ≡ Some (firm_file after)
  pub kept_are : listed dataset after ≡ Ok (unmasked (masks_of v.files entries) entries)
  pub files : (n : FileName) → w.files n ≡ without (masked (masks_of v.files entries) entries) (unmasked (masks_of v.files entries) entries) v.files n
  pub dropped_is : dropped ≡ length (masked (masks_of v.files entries) entries)
  pub kept_is : kept ≡ length (unmasked (masks_of v.files entries) entries)
  pub within : first_over 0 0 (masks_of v.files entries) entries ≡ None

-- what a wipe that succeeded made of it: no table, and no file that an entry named
pub record HasWiped (dataset : List ℕ) (v w : Contents) (count : ℕ) : Type 0 where
  pub file : File
  pub is : v.table ≡ Some file
  pub entries : List Entry
  pub lists : listed dataset file.reads ≡ Ok entries
  pub table : w.table ≡ None
  pub files : (n : FileName) → w.files n ≡ without entries [] v.files n
  pub count_is : count ≡ length entries

-- ---- refusals

-- a listed file is absent or too short, and is the first such, or the index of an entry isn't in its format
abbrev pub IsDamagedIn : List ℕ → Damage → Contents → Type 0
IsDamagedIn dataset d v = WithTable v.table (λ f. (es : List Entry) × (listed dataset f.reads ≡ Ok es)
    × (IsFirst d (damages v.files es) ⊎ ((e : Entry) × Contains es e × IsBadIndex e (v.files (index_file e)) d)))

-- the entry with this number is the first to be kept whose writer is too great for its new place
abbrev pub IsOver : List ℕ → ℕ → ℕ → Contents → Type 0
IsOver dataset entry writer v = WithTable v.table (λ f. (es : List Entry) × (listed dataset f.reads ≡ Ok es)
    × (first_over 0 0 (masks_of v.files es) es ≡ Some (entry, writer)))

-- ---- what is held

-- what a crash left of a dataset holds these batches
abbrev pub held_left : List ℕ → Left → Option (List (List Pair))
held_left dataset left = held_by dataset left.files (option_map firm_file left.table)

-- it holds what the dataset held, or that without its masked batches
abbrev pub HoldsAllOrKept : List ℕ → Contents → Left → Type 0
HoldsAllOrKept dataset v left = (held_left dataset left ≡ held dataset v) ⊎ IfSome (held dataset v) (λ t. held_left dataset left ≡ Some (kept t))

abbrev pub HoldsAllOrNone : List ℕ → Contents → Left → Type 0
HoldsAllOrNone dataset v left = (held_left dataset left ≡ held dataset v) ⊎ (held_left dataset left ≡ Some [])

-- What a purge leaves holds all or what is kept.
abbrev pub PurgeKeeps : Type 0
PurgeKeeps = (dataset : List ℕ) (v : Contents) (left : Left) → IsLeftByPurge dataset v left → HoldsAllOrKept dataset v left

-- What a purge that succeeded made of a dataset holds what is kept of what it held.
abbrev pub PurgedHolds : Type 0
PurgedHolds = (dataset : List ℕ) (v w : Contents) (dropped kept_count : ℕ) → IsPurged dataset v w dropped kept_count → IfSome (held dataset v) (λ t. held dataset w ≡ Some (kept t))

abbrev pub WipeKeeps : Type 0
WipeKeeps = (dataset : List ℕ) (v : Contents) (left : Left) → IsLeftByWipe dataset v left → HoldsAllOrNone dataset v left
