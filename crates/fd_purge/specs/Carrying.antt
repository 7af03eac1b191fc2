-- What removing files leaves, and what carrying out a purge leaves.
use Rattle.std.specs.Prelude.{◌≡◌, ◌≢◌, ◌⊎◌, ℕ, List, [], Option, Some, None, Ok, option_map}
use Rattle.fd_disk.specs.declared.file.File.{File}
use Rattle.fd_disk.specs.Folders.{Contents, Left, IsTableLeft, founded, with_table}
use Rattle.fd_disk.specs.Renewals.{MayLeaveFolder}
use Rattle.fd_entries.specs.declared.table.Entry.{Entry}
use Rattle.fd_entries.specs.Table.{listed}
use Rattle.fd_purge.specs.Purging.{AreThinned, without}

-- the dataset without the files of dropped entries that no kept entry names
abbrev pub thinned_by : List Entry → List Entry → Contents → Contents
thinned_by dropped kept v = record { table = v.table; files = without dropped kept v.files }

-- some of these files are gone
pub record IsThinner (dropped kept : List Entry) (v w : Contents) : Type 0 where
  pub table : w.table ≡ v.table
  pub files : AreThinned dropped kept v.files w.files

-- a crash may leave this of the dataset, without some of these files
pub record LeavesThinner (dropped kept : List Entry) (v : Contents) (left : Left) : Type 0 where
  pub table : IsTableLeft v.table left.table
  pub files : AreThinned dropped kept v.files left.files

-- told where the folder is
abbrev pub LeavesThinnerOf : List Entry → List Entry → Option Contents → Left → Type 0
LeavesThinnerOf dropped kept (Some v) left = LeavesThinner dropped kept v left
LeavesThinnerOf dropped kept None left = ⊥

abbrev pub IsThinnerOf : List Entry → List Entry → Option Contents → Option Contents → Type 0
IsThinnerOf dropped kept (Some v) (Some w) = IsThinner dropped kept v w
IsThinnerOf dropped kept (Some v) None = ⊥
IsThinnerOf dropped kept None w = w ≡ None

-- Where the table was out with this file, and the folder is to become another and then to lose files: the folder has its table
-- back, or it is that other, without some of these files.
abbrev pub IsMidway : Option File → (Contents → Contents) → List Entry → List Entry → Option Contents → Option Contents → Type 0
IsMidway table to dropped kept old new = (new ≡ with_table table old) ⊎ IsThinnerOf dropped kept (option_map to old) new

-- a crash meanwhile may leave this
abbrev pub LeavesMidway : Option File → (Contents → Contents) → List Entry → List Entry → Option Contents → Left → Type 0
LeavesMidway table to dropped kept old left = MayLeaveFolder (with_table table old) left ⊎ LeavesThinnerOf dropped kept (option_map to old) left

-- Nothing was to be dropped, and the folder has its table back; or its table is a firm one that lists the kept entries, and the
-- files of the dropped ones are gone.
abbrev pub IsCarriedOut : List ℕ → Option File → List Entry → List Entry → Option Contents → Option Contents → Type 0
IsCarriedOut dataset table dropped kept old new =
    ((dropped ≡ []) × (new ≡ with_table table old))
    ⊎ ((dropped ≢ []) × (bytes : List ℕ) × (listed dataset bytes ≡ Ok kept) × (new ≡ option_map (λ v. thinned_by dropped kept (founded bytes v)) old))

-- the same, or some of these files are there still, or nothing has changed
abbrev pub IsUnderWay : List ℕ → Option File → List Entry → List Entry → Option Contents → Option Contents → Type 0
IsUnderWay dataset table dropped kept old new =
    (new ≡ with_table table old)
    ⊎ ((bytes : List ℕ) × (listed dataset bytes ≡ Ok kept) × IsThinnerOf dropped kept (option_map (founded bytes) old) new)

-- a crash meanwhile may leave this
abbrev pub LeavesUnderWay : List ℕ → Option File → List Entry → List Entry → Option Contents → Left → Type 0
LeavesUnderWay dataset table dropped kept old left =
    MayLeaveFolder (with_table table old) left
    ⊎ ((bytes : List ℕ) × (listed dataset bytes ≡ Ok kept) × LeavesThinnerOf dropped kept (option_map (founded bytes) old) left)
