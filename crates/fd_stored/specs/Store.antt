-- What a store holds, and what may become of it.
use Rattle.std.specs.Prelude.{◌≡◌, ◌⊎◌, ◌≤◌, ◌+◌, ◌/◌, ℕ, Bool, List, [], ◌++◌, length, is_some, option_map, Option, Some, None, IfSome, IsSome, Result, Ok, Err, Contains}
use Rattle.std.specs.List.{All, list_any}
use Rattle.std.specs.Str.{bytes_eq}
use Rattle.std.specs.Ordering.{nat_cmp}
use Rattle.std.specs.Cmp.Lexicographic.{slice_cmp}
use Rattle.std.specs.List.Sorted.{IsStrictlySortedBy}
use Rattle.fd_disk.specs.declared.file.File.{File}
use Rattle.fd_disk.specs.declared.folders.FileName.{FileName}
use Rattle.fd_disk.specs.Folders as folders
use Rattle.fd_disk.specs.Folders.{Holdings, folder_at}
use Rattle.fd_disk.specs.Images.{synced}
use Rattle.fd_entries.specs.declared.batch.Pair.{Pair}
use Rattle.fd_entries.specs.declared.table.Entry.{Entry}
use Rattle.fd_entries.specs.declared.table.NotATable.{NotATable}
use Rattle.fd_entries.specs.Batches.{of_batch, newest, or_older}
use Rattle.fd_entries.specs.Table.{listed}
use Rattle.fd_schema.specs.Rules.{Rule}
use Rattle.fd_schema.specs.Grammar.{schema_of}
use Rattle.fd_segment.specs.Causes.{IsBadIndex, IsFindDamage, IsKeyDamage}
use Rattle.fd_segment.specs.declared.fault.Damage.{Damage}
use Rattle.fd_recovery.specs.Damages.{damages, index_file}
use Rattle.fd_recovery.specs.Recovered.{ReadsImage, files_of, held}
use Rattle.fd_stored.specs.Causes.{Broken, BadTable, BadFile}

-- ---- what a dataset has

-- A dataset's table: its batches, in the order in which they were listed. There is none where the dataset is damaged.
-- A dataset without a folder, or whose folder has no table, has no batches.
abbrev pub table_at : Holdings → List ℕ → Option (List (List Pair))
table_at h name = held name (folder_at h name)

-- there is a table
abbrev pub has_table : Holdings → List ℕ → Bool
has_table h name = is_some (folder_at h name).table

abbrev pub if_listed : Result (List Entry) NotATable → Option (List Entry)
if_listed (Ok es) = Some es
if_listed (Err fault) = None

-- the entries that a dataset's table lists, where there is one and it is a table
abbrev pub entries_in : List ℕ → Option File → Option (List Entry)
entries_in name None = None
entries_in name (Some f) = if_listed (listed name f.reads)

-- the datasets that have a folder, in byte order
pub record AreNames (h : Holdings) (names : List (List ℕ)) : Type 0 where
  pub sorted : IsStrictlySortedBy (slice_cmp nat_cmp) names
  pub each : (name : List ℕ) → list_any (λ n. bytes_eq name n) names ≡ is_some (h.folders name)

-- the stored schema is one, where there is any, and no dataset is damaged
pub record IsSound (h : Holdings) : Type 0 where
  pub schema : IfSome h.schema (λ text. (rules : List Rule) × (schema_of text ≡ Ok rules))
  pub datasets : (name : List ℕ) → IsSome (table_at h name)

-- ---- damage

-- the damage stands in a listed file: in the file as a whole, in its index, in a page of that by itself, in one of its records,
-- or in the digest behind a record's bytes
abbrev pub StandsIn : folders.Contents → List Entry → Damage → Type 0
StandsIn v es d = Contains (damages v.files es) d
    ⊎ ((e : Entry) × Contains es e × (IsBadIndex e (v.files (index_file e)) d ⊎ ((key : List ℕ) × (IsFindDamage e (v.files (index_file e)) key d ⊎ IsKeyDamage (files_of v.files e) key d))))

-- This is broken in the dataset.
abbrev pub Stands : List ℕ → folders.Contents → Broken → Type 0
Stands name v (BadTable fault) = (f : File) × (v.table ≡ Some f) × (listed name f.reads ≡ Err fault)
Stands name v (BadFile d) = (f : File) × (es : List Entry) × (v.table ≡ Some f) × (listed name f.reads ≡ Ok es) × StandsIn v es d

-- ---- a command that stores no fields

-- The dataset has a table where it had one, which lists what it listed, and the files that it had.
pub record StaysFolder (name : List ℕ) (v w : folders.Contents) : Type 0 where
  pub table : option_map (λ f. listed name f.reads) w.table ≡ option_map (λ f. listed name f.reads) v.table
  pub files : (n : FileName) → w.files n ≡ v.files n

abbrev pub StayFolders : Holdings → Holdings → Type 0
StayFolders h i = (name : List ℕ) → StaysFolder name (folder_at h name) (folder_at i name)

-- all stays
pub record Stays (h i : Holdings) : Type 0 where
  pub schema : i.schema ≡ h.schema
  pub folders : StayFolders h i

-- The folder has the files that it had, and its table as it was, or synced; and what was synced read as one of its images.
pub record IsLookedAt (v w : folders.Contents) : Type 0 where
  pub files : w.files ≡ v.files
  pub table : (w.table ≡ v.table) ⊎ ((w.table ≡ option_map synced v.table) × ReadsImage v.table)

-- the same of each folder; and the schema is as it was
pub record IsLookedThrough (h i : Holdings) : Type 0 where
  pub schema : i.schema ≡ h.schema
  pub folders : (name : List ℕ) → IsLookedAt (folder_at h name) (folder_at i name)

-- there is a schema where there was none, and all else stays
pub record Plants (text : List ℕ) (h i : Holdings) : Type 0 where
  pub none : h.schema ≡ None
  pub schema : i.schema ≡ Some text
  pub folders : StayFolders h i

-- ---- a command that stores fields

-- what the batch has is among these pairs
abbrev pub HasOnly : List Pair → List Pair → Type 0
HasOnly pairs b = (key bytes : List ℕ) → of_batch b key ≡ Some bytes → Contains pairs (record { key = key; bytes = bytes })

-- Batches were added to a table, few for so many workers, and of these pairs alone; none where there are no pairs.
pub record Adds (workers : ℕ) (pairs : List Pair) (before : List (List Pair)) (after : Option (List (List Pair))) : Type 0 where
  pub added : List (List Pair)
  pub after_is : after ≡ Some (before ++ added)
  pub only : All (HasOnly pairs) added
  pub few : length added ≤ workers + length pairs / 512
  pub none : pairs ≡ [] → added ≡ []

-- The same, and each key has now the bytes of its last pair, or else those that it had.
pub record AddsAll (workers : ℕ) (pairs : List Pair) (before : List (List Pair)) (after : Option (List (List Pair))) : Type 0 where
  pub adds : Adds workers pairs before after
  pub newest_is : (t : List (List Pair)) → after ≡ Some t → (key : List ℕ) → newest t key ≡ or_older (of_batch pairs key) (newest before key)

-- the pairs of each dataset
abbrev pub Sorted : Type 0
Sorted = List ℕ → List Pair

-- each sound dataset has batches of its pairs added
pub record Grows (workers : ℕ) (pairs : Sorted) (h i : Holdings) : Type 0 where
  pub schema : i.schema ≡ h.schema
  pub each : (name : List ℕ) (t : List (List Pair)) → table_at h name ≡ Some t → Adds workers (pairs name) t (table_at i name)

-- and all pairs are stored
pub record GrowsBy (workers : ℕ) (pairs : Sorted) (h i : Holdings) : Type 0 where
  pub schema : i.schema ≡ h.schema
  pub each : (name : List ℕ) (t : List (List Pair)) → table_at h name ≡ Some t → AddsAll workers (pairs name) t (table_at i name)

-- a dataset's table lists 65,535 entries
abbrev pub IsFull : Holdings → List ℕ → Type 0
IsFull h name = (es : List Entry) × (entries_in name (folder_at h name).table ≡ Some es) × (length es ≡ 65535)
