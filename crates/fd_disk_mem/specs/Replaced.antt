-- A store in which one file was replaced.
use Rattle.std.specs.Prelude.{◌≡◌, ◌≢◌, ◌⊎◌, ◌<◌, ◌^◌, ◌||◌, false, is_some, ℕ, List, Option, codes, option_map}
use Rattle.fd_disk.specs.declared.folders.FileName.{FileName}
use Rattle.fd_disk.specs.Folders.{Holdings, SameBut, folder_at}
use Rattle.fd_disk.specs.Images.{firm_file}
use Rattle.fd_disk.specs.Names.{same_name}
use Rattle.fd_file_mem.specs.Plans.{file_text, table_text}

-- The schema is this text or none, and the folders are as before.
pub record HasSchema (text : Option (List ℕ)) (before after : Holdings) : Type 0 where
  pub schema : after.schema ≡ text
  pub folders : after.folders ≡ before.folders

-- The dataset's table is a firm file of these bytes or none, and all else is as before. A folder is made where there is something
-- to hold.
pub record HasTable (dataset : List ℕ) (bytes : Option (List ℕ)) (before after : Holdings) : Type 0 where
  pub others : SameBut dataset before after
  pub table : (folder_at after dataset).table ≡ option_map firm_file bytes
  pub files : (folder_at after dataset).files ≡ (folder_at before dataset).files
  pub here : is_some (after.folders dataset) ≡ (is_some bytes || is_some (before.folders dataset))

-- The dataset's file of this name has these bytes or isn't there, and all else is as before.
pub record HasFile (dataset : List ℕ) (name : FileName) (bytes : Option (List ℕ)) (before after : Holdings) : Type 0 where
  pub others : SameBut dataset before after
  pub table : (folder_at after dataset).table ≡ (folder_at before dataset).table
  pub file : (folder_at after dataset).files name ≡ bytes
  pub files : (n : FileName) → same_name name n ≡ false → (folder_at after dataset).files n ≡ (folder_at before dataset).files n
  pub here : is_some (after.folders dataset) ≡ (is_some bytes || is_some (before.folders dataset))

-- The text is no file's name.
pub record NamesNone (text : List ℕ) : Type 0 where
  pub no_schema : text ≢ codes "schema"
  pub no_table : (dataset : List ℕ) → text ≢ table_text dataset
  pub no_file : (dataset : List ℕ) (n : FileName) → n.writer < 2 ^ 32 → n.seq < 2 ^ 32 → text ≢ file_text dataset n

-- The text names the schema, a table or a file, and this one alone was replaced by these bytes, or by none; or it names none, and
-- nothing was.
abbrev pub IsReplaced : List ℕ → Option (List ℕ) → Holdings → Holdings → Type 0
IsReplaced text bytes before after =
    ((text ≡ codes "schema") × HasSchema bytes before after)
    ⊎ (((dataset : List ℕ) × (text ≡ table_text dataset) × HasTable dataset bytes before after)
    ⊎ (((dataset : List ℕ) × (n : FileName) × (text ≡ file_text dataset n) × HasFile dataset n bytes before after)
    ⊎ (NamesNone text × (after ≡ before))))
