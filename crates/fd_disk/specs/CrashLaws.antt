-- What holds of crashes while things are out, as statements over all datasets and stores.
use Rattle.std.specs.Prelude.{◌≡◌, ◌⊎◌, ◌↔◌, ◌≢◌, if◌then◌else◌, Bool, true, false, List, ℕ, Option, Some, None, is_some}
use Rattle.std.specs.Str.{bytes_eq}
use Rattle.fd_disk.specs.declared.file.File.{File}
use Rattle.fd_disk.specs.declared.folders.FileName.{FileName}
use Rattle.fd_disk.specs.declared.folders.FileKind.TheVariants.{Fields, Index}
use Rattle.fd_disk.specs.Folders.{Contents, Holdings, HasBack, Left, IsFolderImage, IsStoreImage, SameBut, folder_at, keeping, with_table, without_table}
use Rattle.fd_disk.specs.Names.{name_of}
use Rattle.fd_disk.specs.Outstanding.{Shelved, Parts, IsDatasetImage, IsStoreLeft, IsLeftByFound, IsLeftByPlant, all_back, after_shelf, none_out, with_shelf}

-- With everything back the images are those of the folder, and of the store.
abbrev pub FolderWithAllBack : Type 0
FolderWithAllBack = (v : Contents) (left : Left) → IsDatasetImage (all_back v) left ↔ IsFolderImage v left

abbrev pub StoreWithAllBack : Type 0
StoreWithAllBack = (s : Holdings) (schema : Option (List ℕ)) (folders : List ℕ → Option Left) → IsStoreLeft s none_out schema folders ↔ IsStoreImage s schema folders

-- A file that a shelf keeps stands in each image, with these bytes.
abbrev pub KeptStands : Type 0
KeptStands = (d : Parts) (s : Shelved) (n : FileName) (bytes : List ℕ) (left : Left) → d.shelves n.writer ≡ Some s → s.kept n ≡ Some bytes
    → IsDatasetImage d left → left.files n ≡ Some bytes

-- So do both files of a batch, from the moment when the shelf was asked to keep them.
abbrev pub KeepsBoth : Type 0
KeepsBoth = (d : Parts) (s : Shelved) (w seq : ℕ) (fields index : List ℕ) (before : Option (FileName → Option (List ℕ))) (left : Left)
    → Some s.kept ≡ keeping (name_of w seq Index) (Some index) (keeping (name_of w seq Fields) (Some fields) before)
    → d.shelves w ≡ Some s → IsDatasetImage d left
    → (left.files (name_of w seq Fields) ≡ Some fields) × (left.files (name_of w seq Index) ≡ Some index)

-- A file that a folder has, and that its writer's shelf neither keeps nor created, stands in each image.
abbrev pub IsApart : Option Shelved → FileName → Type 0
IsApart (Some s) n = (s.kept n ≡ None) × (s.created n ≡ false)
IsApart None n = Unit {0}

abbrev pub SealedStands : Type 0
SealedStands = (d : Parts) (n : FileName) (bytes : List ℕ) (left : Left) → d.folder.files n ≡ Some bytes → IsApart (d.shelves n.writer) n
    → IsDatasetImage d left → left.files n ≡ Some bytes

-- A shelf that was just handed out changes no image.
abbrev pub NewShelfChangesNone : Type 0
NewShelfChangesNone = (d : Parts) (w : ℕ) (s : Shelved) (left : Left) → d.shelves w ≡ None → ((n : FileName) → (s.kept n ≡ None) × (s.created n ≡ false))
    → IsDatasetImage (with_shelf w s d) left ↔ IsDatasetImage d left

-- Handing the table out changes no image, and putting it back neither.
abbrev pub TableOutChangesNone : Type 0
TableOutChangesNone = (v : Contents) (f : File) (shelves : ℕ → Option Shelved) (left : Left) → v.table ≡ Some f
    → IsDatasetImage (record { folder = without_table v; table = Some f; shelves = shelves }) left ↔ IsDatasetImage (record { folder = v; table = None; shelves = shelves }) left

abbrev pub TableBackChangesNone : Type 0
TableBackChangesNone = (old new : Contents) (f : File) (shelves : ℕ → Option Shelved) (left : Left) → Some new ≡ with_table (Some f) (Some old)
    → IsDatasetImage (record { folder = new; table = None; shelves = shelves }) left ↔ IsDatasetImage (record { folder = old; table = Some f; shelves = shelves }) left

-- After a shelf was put back each image is one of those before; and each of those before is one, where the files that the
-- shelf created and didn't keep are as the folder has them now.
abbrev pub ShelfBackChangesNone : Type 0
ShelfBackChangesNone = (d : Parts) (w : ℕ) (s : Shelved) (v : Contents) (left : Left) → d.shelves w ≡ Some s
    → ((n : FileName) → s.created n ≡ true → n.writer ≡ w) → HasBack d.folder v s.kept s.created
    → (IsDatasetImage (after_shelf w v d) left → IsDatasetImage d left)
    × (IsDatasetImage d left → ((n : FileName) → s.created n ≡ true → s.kept n ≡ None → left.files n ≡ v.files n) → IsDatasetImage (after_shelf w v d) left)

-- After a folder with all its parts was put back each image is one of those before; and each of those before is one,
-- where it has the folder exactly where the store has it now.
abbrev pub FolderBackChangesNone : Type 0
FolderBackChangesNone = (old new : Holdings) (name : List ℕ) (v : Contents) (before after : List ℕ → Option Parts) (schema : Option (List ℕ)) (folders : List ℕ → Option Left)
    → SameBut name old new → v ≡ folder_at new name
    → before name ≡ Some (all_back v) → after name ≡ None → ((other : List ℕ) → other ≢ name → after other ≡ before other)
    → (IsStoreLeft new after schema folders → IsStoreLeft old before schema folders)
    × (IsStoreLeft old before schema folders → is_some (folders name) ≡ is_some (new.folders name) → IsStoreLeft new after schema folders)

-- A crash in the middle of `found` leaves no table or one of these bytes, and each file.
abbrev pub FoundLeavesWhole : Type 0
FoundLeavesWhole = (first : List ℕ) (v : Contents) (left : Left) → v.table ≡ None → IsLeftByFound first v left
    → ((left.table ≡ None) ⊎ (left.table ≡ Some first)) × ((n : FileName) → left.files n ≡ v.files n)

-- A crash in the middle of `plant` leaves no schema or one of these bytes, and each folder with one of its images.
abbrev pub PlantLeavesWhole : Type 0
PlantLeavesWhole = (text : List ℕ) (s : Holdings) (schema : Option (List ℕ)) (folders : List ℕ → Option Left) → s.schema ≡ None → IsLeftByPlant text s schema folders
    → ((schema ≡ None) ⊎ (schema ≡ Some text)) × IsStoreImage s s.schema folders
