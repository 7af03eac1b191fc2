-- What a crash may leave of a dataset while its table and shelves are handed out, and of a store while folders are.
use Rattle.std.specs.Prelude.{◌≡◌, ◌⊎◌, if◌then◌else◌, ◌==◌, Bool, true, false, List, ℕ, Option, Some, None}
use Rattle.std.specs.Str.{bytes_eq}
use Rattle.fd_disk.specs.declared.file.File.{File}
use Rattle.fd_disk.specs.declared.folders.FileName.{FileName}
use Rattle.fd_disk.specs.Folders.{Contents, Holdings, Left, IsTableLeft, IsFolderImage, IsFolderLeft, IsStoreImage, no_files, founded, planted}

-- A shelf that is out: the bytes of the files that it keeps, and which files it was asked to create.
pub record Shelved : Type 0 where
  pub kept : FileName → Option (List ℕ)
  pub created : FileName → Bool

-- A dataset, wherever its parts are.
pub record Parts : Type 0 where
  -- what the folder has
  pub folder : Contents
  -- the table's file, while it is out
  pub table : Option File
  -- the shelves that are out, by their writers
  pub shelves : ℕ → Option Shelved

abbrev pub no_shelves : ℕ → Option Shelved
no_shelves w = None

-- nothing of the dataset is out
abbrev pub all_back : Contents → Parts
all_back v = record { folder = v; table = None; shelves = no_shelves }

-- the file that is out, or else the one that the folder has
abbrev pub table_of : Option File → Option File → Option File
table_of (Some f) here = Some f
table_of None here = here

-- A file that its writer's shelf keeps stands. One that the shelf was asked to create and doesn't keep may be there or
-- not, with any bytes. Any other is as the folder has it.
abbrev pub IsKeptOr : Option (List ℕ) → Bool → Option (List ℕ) → Option (List ℕ) → Type 0
IsKeptOr (Some bytes) created here left = left ≡ Some bytes
IsKeptOr None true here left = Unit {0}
IsKeptOr None false here left = left ≡ here

abbrev pub IsFileLeft : Option Shelved → FileName → Option (List ℕ) → Option (List ℕ) → Type 0
IsFileLeft (Some s) n here left = IsKeptOr (s.kept n) (s.created n) here left
IsFileLeft None n here left = left ≡ here

-- A crash now may leave this of the dataset: one image of the table, wherever it is, and one of each file.
pub record IsDatasetImage (now : Parts) (left : Left) : Type 0 where
  pub table : IsTableLeft (table_of now.table now.folder.table) left.table
  pub files : (n : FileName) → IsFileLeft (now.shelves n.writer) n (now.folder.files n) (left.files n)

abbrev pub nothing_left : Left
nothing_left = record { table = None; files = no_files }

-- of a dataset that is out; one that has nothing may be left as none
abbrev pub IsOutLeft : Parts → Option Left → Type 0
IsOutLeft d (Some left) = IsDatasetImage d left
IsOutLeft d None = IsDatasetImage d nothing_left

abbrev pub IsPlaceLeft : Option Parts → Option Contents → Option Left → Type 0
IsPlaceLeft (Some d) here left = IsOutLeft d left
IsPlaceLeft None here left = IsFolderLeft here left

-- A crash now may leave this schema and these folders of a store, while some folders are out.
pub record IsStoreLeft (now : Holdings) (out : List ℕ → Option Parts) (schema : Option (List ℕ)) (folders : List ℕ → Option Left) : Type 0 where
  pub schema_is : schema ≡ now.schema
  pub folders_are : (name : List ℕ) → IsPlaceLeft (out name) (now.folders name) (folders name)

abbrev pub none_out : List ℕ → Option Parts
none_out name = None

-- this dataset alone is out
abbrev pub one_out : List ℕ → Parts → List ℕ → Option Parts
one_out name d other = if bytes_eq other name then Some d else None

-- the dataset with this shelf out too
abbrev pub with_shelf : ℕ → Shelved → Parts → Parts
with_shelf w s d = record { folder = d.folder; table = d.table; shelves = λ v. if v == w then Some s else d.shelves v }

-- the dataset after the shelf of this writer was put back into the folder, which has this now
abbrev pub after_shelf : ℕ → Contents → Parts → Parts
after_shelf w v d = record { folder = v; table = d.table; shelves = λ x. if x == w then None else d.shelves x }

-- A crash in the middle of `found` leaves what one before it or one after it leaves: no table, or these bytes.
abbrev pub IsLeftByFound : List ℕ → Contents → Left → Type 0
IsLeftByFound first v left = IsFolderImage v left ⊎ IsFolderImage (founded first v) left

-- A crash in the middle of `plant` leaves no schema, or these bytes.
abbrev pub IsLeftByPlant : List ℕ → Holdings → Option (List ℕ) → (List ℕ → Option Left) → Type 0
IsLeftByPlant text s schema folders = IsStoreImage s schema folders ⊎ IsStoreImage (planted text s) schema folders
