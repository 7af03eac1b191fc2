-- What a crash at each moment since a time may leave of a dataset, and a dataset whose table is renewed or whose files go.
use Rattle.std.specs.Prelude.{◌≡◌, ◌⊎◌, ◌≤◌, if◌then◌else◌, ℕ, List, Option, Some, None}
use Rattle.fd_disk.specs.declared.folders.FileName.{FileName}
use Rattle.fd_disk.specs.Folders.{Contents, Left, IsFolderImage, founded}
use Rattle.fd_disk.specs.Names.{same_name}

-- a crash now may leave this of a dataset whose parts are back; a folder that doesn't tell claims nothing
abbrev pub MayLeaveFolder : Option Contents → Left → Type 0
MayLeaveFolder (Some v) left = IsFolderImage v left
MayLeaveFolder None left = ⊥

-- bytes of a table with P were left
abbrev pub IsLeftWith : (List ℕ → Type 0) → Option (List ℕ) → Type 0
IsLeftWith P (Some c) = P c
IsLeftWith P None = ⊥

-- while the table is out, such bytes of it were left, and each file as the folder has it
abbrev pub IsLeftBeside : Option Contents → (List ℕ → Type 0) → Left → Type 0
IsLeftBeside (Some v) P left = IsLeftWith P left.table × ((n : FileName) → left.files n ≡ v.files n)
IsLeftBeside None P left = ⊥

-- No moment came: what a crash since a time might have left is what it was.
pub record StandsStill (before now : ℕ) (past since : ℕ → Left → Type 0) : Type 0 where
  pub same : now ≡ before
  pub nothing_else : (t : ℕ) (left : Left) → since t left → past t left
  pub keeps : (t : ℕ) (left : Left) → past t left → since t left

-- Time goes on: a crash since t might have left what it might have left before, or now what has P.
pub record GoesOn (before now : ℕ) (past since : ℕ → Left → Type 0) (P : Left → Type 0) : Type 0 where
  pub later : before ≤ now
  pub nothing_else : (t : ℕ) (left : Left) → t ≤ before → since t left → past t left ⊎ (P left × since before left)
  pub keeps : (t : ℕ) (left : Left) → t ≤ before → past t left → since t left

-- Nothing was written: a crash since t might have left what it might have left before, or what one before leaves.
pub record IsQuiet (before now : ℕ) (past since : ℕ → Left → Type 0) (has : Option Contents) : Type 0 where
  pub later : before ≤ now
  pub nothing_else : (t : ℕ) (left : Left) → since t left → past t left ⊎ MayLeaveFolder has left

-- no table
abbrev pub unfounded : Contents → Contents
unfounded v = record { table = None; files = v.files }

-- all files but this one
abbrev pub removed : FileName → Contents → Contents
removed n v = record { table = v.table; files = λ m. if same_name n m then None else v.files m }

-- A crash while one of two folders becomes the other leaves what one of them leaves.
abbrev pub IsLeftBetween : Option Contents → Option Contents → Left → Type 0
IsLeftBetween old new left = MayLeaveFolder old left ⊎ MayLeaveFolder new left
