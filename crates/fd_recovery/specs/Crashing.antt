-- What a crash may leave of a folder and of a store, as what stands there again, with firm tables.
use Rattle.std.specs.Prelude.{◌≡◌, List, ℕ, Option, Some, IfSome, option_map}
use Rattle.fd_disk.specs.declared.file.File.{File}
use Rattle.fd_disk.specs.Folders.{Contents, Holdings, IsFolderImage, IsStoreImage, Left, folder_at}
use Rattle.fd_disk.specs.Images.{firm_file}

-- a table that is there is firm
abbrev pub IsFirmTable : Option File → Type 0
IsFirmTable t = IfSome t (λ f. f ≡ firm_file f.reads)

-- all tables are firm
abbrev pub AreFirm : Holdings → Type 0
AreFirm h = (name : List ℕ) → IsFirmTable (folder_at h name).table

-- what a read of a dataset gives
abbrev pub read_of : Contents → Left
read_of v = record { table = option_map (λ f. f.reads) v.table; files = v.files }

-- A crash of the one folder may leave the other: it reads as an image of that, and its table is firm.
pub record IsFolderAfter (v w : Contents) : Type 0 where
  pub image : IsFolderImage v (read_of w)
  pub firm : IsFirmTable w.table

-- the store with a folder under each name: one that isn't there is an empty one
abbrev pub with_all_folders : Holdings → Holdings
with_all_folders h = record { schema = h.schema; folders = λ name. Some (folder_at h name) }

-- what a read gives of each of these
abbrev pub all_read : Holdings → List ℕ → Option Left
all_read h name = Some (read_of (folder_at h name))

-- A crash of the one store may leave the other: it reads as an image of that, and its tables are firm. An empty folder may be away,
-- or come about.
pub record IsAfterCrash (i j : Holdings) : Type 0 where
  pub image : IsStoreImage (with_all_folders i) j.schema (all_read j)
  pub firm : AreFirm j
