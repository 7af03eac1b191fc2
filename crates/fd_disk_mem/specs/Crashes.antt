-- What a crash of a store leaves, by the number that is chosen.
use Rattle.std.specs.Prelude.{◌≡◌, ℕ, List, Option, Some, None, option_map}
use Rattle.fd_disk.specs.declared.file.File.{File}
use Rattle.fd_disk.specs.Images.{firm_file}
use Rattle.fd_disk.specs.Folders.{Contents, Holdings, Left}
use Rattle.fd_disk.specs.declared.folders.FileName.{FileName}
use Rattle.fd_file_mem.specs.Left.{IsLeft}

-- a table is firm afterwards with what is left of it, and there is none where there was none
abbrev pub IsTableCrashed : ℕ → Option File → Option File → Type 0
IsTableCrashed choice (Some f) (Some g) = (g ≡ firm_file g.firm) × IsLeft choice f g.firm
IsTableCrashed choice None None = Unit {0}
IsTableCrashed choice (Some f) None = ⊥
IsTableCrashed choice None (Some g) = ⊥

-- a folder has its files as before
abbrev pub IsFolderCrashed : ℕ → Option Contents → Option Contents → Type 0
IsFolderCrashed choice (Some v) (Some w) = IsTableCrashed choice v.table w.table × ((n : FileName) → w.files n ≡ v.files n)
IsFolderCrashed choice None None = Unit {0}
IsFolderCrashed choice (Some v) None = ⊥
IsFolderCrashed choice None (Some w) = ⊥

-- a store has its schema and its folders as before
pub record IsCrashed (choice : ℕ) (before after : Holdings) : Type 0 where
  pub schema : after.schema ≡ before.schema
  pub folders : (name : List ℕ) → IsFolderCrashed choice (before.folders name) (after.folders name)

-- what is left of a folder whose table is firm
abbrev pub left_of : Contents → Left
left_of v = record { table = option_map (λ f. f.firm) v.table; files = v.files }

abbrev pub folders_left : Holdings → List ℕ → Option Left
folders_left s name = option_map left_of (s.folders name)
