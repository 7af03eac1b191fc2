-- What a folder and a store have, and what a crash may leave of them.
use Rattle.std.specs.Prelude.{◌≡◌, ◌≢◌, if◌then◌else◌, Bool, false, List, ℕ, Option, Some, None, unwrap_or}
use Rattle.fd_disk.specs.declared.file.File.{File}
use Rattle.fd_disk.specs.declared.folders.FileName.{FileName}
use Rattle.fd_disk.specs.Images.{IsImage, firm_file}
use Rattle.fd_disk.specs.Names.{same_name}

-- A folder's table, and the bytes of its files. The files were sealed: each is firm and has its name.
pub record Contents : Type 0 where
  pub table : Option File
  pub files : FileName → Option (List ℕ)

abbrev pub no_files : FileName → Option (List ℕ)
no_files n = None

abbrev pub no_contents : Contents
no_contents = record { table = None; files = no_files }

-- the folder while its table is handed out
abbrev pub without_table : Contents → Contents
without_table v = record { table = None; files = v.files }

-- a firm table of these bytes
abbrev pub founded : List ℕ → Contents → Contents
founded first v = record { table = Some (firm_file first); files = v.files }

-- told where both are
abbrev pub with_table : Option File → Option Contents → Option Contents
with_table (Some f) (Some v) = Some (record { table = Some f; files = v.files })
with_table (Some f) None = None
with_table None v = None

-- these files and one more, or another under its name; told where both are
abbrev pub keeping : FileName → Option (List ℕ) → Option (FileName → Option (List ℕ)) → Option (FileName → Option (List ℕ))
keeping n (Some bytes) (Some files) = Some (λ m. if same_name n m then Some bytes else files m)
keeping n (Some bytes) None = None
keeping n None files = None

-- The folder has afterwards what the shelf kept, and of the files that the shelf didn't create what it had.
pub record HasBack (old new : Contents) (kept : FileName → Option (List ℕ)) (created : FileName → Bool) : Type 0 where
  pub table : new.table ≡ old.table
  pub kept_are : (n : FileName) (bytes : List ℕ) → kept n ≡ Some bytes → new.files n ≡ Some bytes
  pub others : (n : FileName) → created n ≡ false → new.files n ≡ old.files n

-- told where folder and shelf are
abbrev pub TakesBack : Option Contents → Option Contents → Option (FileName → Option (List ℕ)) → (FileName → Bool) → Type 0
TakesBack (Some old) (Some new) (Some kept) created = HasBack old new kept created
TakesBack (Some old) None (Some kept) created = ⊥
TakesBack (Some old) new None created = new ≡ None
TakesBack None new kept created = new ≡ None

-- a store's schema and its folders
pub record Holdings : Type 0 where
  pub schema : Option (List ℕ)
  pub folders : List ℕ → Option Contents

abbrev pub folder_at : Holdings → List ℕ → Contents
folder_at s name = unwrap_or (s.folders name) no_contents

abbrev pub planted : List ℕ → Holdings → Holdings
planted text s = record { schema = Some text; folders = s.folders }

-- two stores differ at most at this folder
pub record SameBut (name : List ℕ) (old new : Holdings) : Type 0 where
  pub schema : new.schema ≡ old.schema
  pub others : (other : List ℕ) → other ≢ name → new.folders other ≡ old.folders other

-- what a crash left of a table: nothing, or these bytes
abbrev pub IsTableLeft : Option File → Option (List ℕ) → Type 0
IsTableLeft (Some f) (Some c) = IsImage f c
IsTableLeft (Some f) None = ⊥
IsTableLeft None left = left ≡ None

-- what a crash left of a folder
pub record Left : Type 0 where
  pub table : Option (List ℕ)
  pub files : FileName → Option (List ℕ)

-- A crash now may leave this of the folder.
pub record IsFolderImage (now : Contents) (left : Left) : Type 0 where
  pub table : IsTableLeft now.table left.table
  pub files : (n : FileName) → left.files n ≡ now.files n

abbrev pub IsFolderLeft : Option Contents → Option Left → Type 0
IsFolderLeft (Some v) (Some left) = IsFolderImage v left
IsFolderLeft (Some v) None = ⊥
IsFolderLeft None left = left ≡ None

-- A crash now may leave this schema and these folders, each with one image.
pub record IsStoreImage (now : Holdings) (schema : Option (List ℕ)) (folders : List ℕ → Option Left) : Type 0 where
  pub schema_is : schema ≡ now.schema
  pub folders_are : (name : List ℕ) → IsFolderLeft (now.folders name) (folders name)

-- the relation holds of what two objects tell, where both tell; and the one tells where the other does
abbrev pub WhereTold : {A B : Type 0} → Option A → Option B → (A → B → Type 0) → Type 0
WhereTold (Some a) (Some b) R = R a b
WhereTold None None R = Unit {0}
WhereTold (Some a) None R = ⊥
WhereTold None (Some b) R = ⊥
