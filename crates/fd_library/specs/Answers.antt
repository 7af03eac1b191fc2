-- What the answers of an opening tell.
use Rattle.std.specs.Prelude.{◌≡◌, ◌⊎◌, ◌<◌, ◌≤◌, ℕ, Bool, true, List, [], ◌∷◌, All, map, max, length, Option, Some, None, IfSome, Result, Ok, Err, is_some}
use Rattle.fd_bytes.specs.Causes.{Rose}
use Rattle.fd_disk.specs.Folders.{Contents, Holdings, folder_at}
use Rattle.fd_recovery.specs.declared.fault.OpenFault.{OpenFault}
use Rattle.fd_recovery.specs.declared.fault.OpenFault.TheVariants as whole
use Rattle.fd_disk.specs.declared.file.File.{File}
use Rattle.fd_entries.specs.declared.batch.Listing.{Listing}
use Rattle.fd_entries.specs.declared.table.Entry.{Entry}
use Rattle.fd_dataset.specs.Listed.{entries_of}
use Rattle.fd_recovery.specs.Recovered.{ReadsIndex, TableFailed, all_of}
use Rattle.fd_turn.specs.Passes.{BoardId}
use Rattle.fd_turn.specs.Views.{first_view}
use Rattle.fd_library.specs.Open.{OpenDataset}
use Rattle.fd_library.specs.Stores.{ListsIn, held_in, held_of}

-- `TooMany` comes exactly where as many are open as may be, the name is new, and a dataset of it would be opened; and
-- then it comes before the dataset is read
abbrev pub TooManyAt : {F : Type 0} → ℕ → Type 0 → Result (Option ℕ) (OpenFault F) → Type 0
TooManyAt held wanted (Ok None) = Unit {0}
TooManyAt held wanted (Ok (Some n)) = n < 2048
TooManyAt held wanted (Err (whole.Disk f)) = Unit {0}
TooManyAt held wanted (Err (whole.NotATable at want found)) = held < 2048
TooManyAt held wanted (Err (whole.Damaged d)) = held < 2048
TooManyAt held wanted (Err (whole.TooMany count)) = (held ≡ 2048) × (count ≡ 2049) × wanted
TooManyAt held wanted (Err whole.NoMemory) = Unit {0}

-- a dataset would be opened: its table is to be made, or there is one, where told
abbrev pub IsWanted : Bool → Option Holdings → List ℕ → Type 0
IsWanted make has name = (make ≡ true) ⊎ IfSome has (λ s. is_some (folder_at s name).table ≡ true)

-- The folder that the store handed out failed before it came back.
pub record FolderFailed {D : Type 0} (has : D → Option Contents) (faults : D → ℕ) (old new : Option Holdings) (name : List ℕ) : Type 0 where
  pub given : D
  pub back : D
  pub is : IfSome old (λ s. has given ≡ Some (folder_at s name))
  pub left : IfSome new (λ t. has back ≡ Some (folder_at t name))
  pub rose : Rose (faults given) (faults back)

-- the table that the folder handed out did, which the folder has now, or an index file that this table lists with a digest
abbrev pub TableBroke : {T : Type 0} → (T → Option File) → (T → ℕ) → Option Contents → List ℕ → Type 0
TableBroke file faults new name = ((old : Option Contents) × TableFailed file faults old new) ⊎ ReadsIndex name new

-- the same of a folder that the store has back
abbrev pub TableBrokeIn : {T : Type 0} → (T → Option File) → (T → ℕ) → Option Holdings → List ℕ → Type 0
TableBrokeIn file faults new name = (has : Option Contents) × IfSome new (λ t. has ≡ Some (folder_at t name)) × TableBroke file faults has name

-- the greatest writer of entries, or 0
abbrev pub greatest_listed : List Entry → ℕ
greatest_listed [] = 0
greatest_listed (e ∷ es) = max e.writer (greatest_listed es)

-- a dataset that was opened just now, on this board
pub record IsOpened {D : Type 0} (name : List ℕ) (b : BoardId) (h : OpenDataset D) : Type 0 where
  pub history : List Listing
  pub told : Bool
  pub name_is : h.name ≡ name
  pub pass : h.pass ≡ Some (record { board = b; view = first_view name told history })
  pub opening : h.opening ≡ length history
  pub asked : (h.given ≡ 0) × (h.lent ≡ 0)
  pub writers : All (λ l. l.entry.writer ≤ h.last) history
  pub last : h.last ≡ greatest_listed (map (λ l. l.entry) history)

-- It holds what the store held, as its files say, and as its listings say. It lists what the table of the store's folder listed,
-- and its folder has the files that this one had.
pub record HoldsAs {D : Type 0} (has : D → Option Contents) (s : Holdings) (h : OpenDataset D) : Type 0 where
  pub files : held_in has h ≡ held_of s h.name
  pub listings : IfSome h.pass (λ p. all_of (map (λ l. l.batch) p.view.history) ≡ held_of s h.name)
  pub lists : IfSome h.pass (λ p. ListsIn h.name (entries_of p.view.history) (folder_at s h.name).table)
  pub same : IfSome (has h.folder) (λ v. v.files ≡ (folder_at s h.name).files)
