-- A dataset that was opened.
use Rattle.std.specs.Prelude.{◌≡◌, ℕ, List, [], ◌∷◌, map, All, Contains, Option, Some, None, Result, Ok, Err, IfSome, IsSome, option_map}
use Rattle.fd_bytes.specs.Causes.{Rose}
use Rattle.fd_disk.specs.declared.file.File.{File}
use Rattle.fd_disk.specs.declared.folders.FileName.{FileName}
use Rattle.fd_disk.specs.Folders.{Contents}
use Rattle.fd_disk.specs.Images.{IsImage, synced}
use Rattle.fd_entries.specs.declared.batch.Pair.{Pair}
use Rattle.fd_entries.specs.declared.table.Entry.{Entry}
use Rattle.fd_entries.specs.declared.table.NotATable.{NotATable}
use Rattle.fd_entries.specs.Table.{listed}
use Rattle.fd_segment.specs.Held.{Files, Standing, batch_of}
use Rattle.fd_recovery.specs.Damages.{damages, field_file, index_file}

-- the two files of an entry
abbrev pub files_of : (FileName → Option (List ℕ)) → Entry → Files
files_of files e = record { entry = e; index = files (index_file e); fields = files (field_file e) }

-- The segment is of the dataset, and its files were created under its entry's names.
pub record IsNamed (dataset : List ℕ) (s : Standing) : Type 0 where
  pub dataset_is : s.dataset ≡ dataset
  pub index_made : s.index_made ≡ Some (index_file s.files.entry)
  pub fields_made : s.fields_made ≡ Some (field_file s.files.entry)

-- One segment for each entry, in order, with the files that the folder has under the entry's names.
pub record AreTakenUp (dataset : List ℕ) (has : Option Contents) (es : List Entry) (segments : List Standing) : Type 0 where
  pub entries : map (λ s. s.files.entry) segments ≡ es
  pub named : All (IsNamed dataset) segments
  pub files : IfSome has (λ v. map (λ s. s.files) segments ≡ map (files_of v.files) es)

-- the folder with its table firm as it reads
abbrev pub with_firm_table : Contents → Contents
with_firm_table v = record { table = option_map synced v.table; files = v.files }

-- The table as it reads is one of its images, as that of every disk is.
abbrev pub ReadsImage : Option File → Type 0
ReadsImage table = IfSome table (λ f. IsImage f f.reads)

-- Nothing is wrong with the table of a dataset, nor with the files of the entries that it lists. A dataset without a table has none.
abbrev pub IsUndamaged : List ℕ → Contents → Type 0
IsUndamaged name v = IfSome v.table (λ f. (es : List Entry) × (listed name f.reads ≡ Ok es) × (damages v.files es ≡ []))

-- one of the entries has a digest
abbrev pub SomeDigest : List Entry → Type 0
SomeDigest es = (e : Entry) × Contains es e × IsSome e.digest

-- there is a table, of which this holds
abbrev pub WithTable : Option File → (File → Type 0) → Type 0
WithTable (Some f) P = P f
WithTable None P = ⊥

-- An index file is read: the table lists an entry with a digest, where told.
abbrev pub ReadsIndex : List ℕ → Option Contents → Type 0
ReadsIndex dataset has = IfSome has (λ v. WithTable v.table (λ f. (es : List Entry) × (listed dataset f.reads ≡ Ok es) × SomeDigest es))

-- The table that the folder handed out failed before it came back: it was the folder's, and the folder has it now.
pub record TableFailed {T : Type 0} (file : T → Option File) (faults : T → ℕ) (old new : Option Contents) : Type 0 where
  pub given : T
  pub back : T
  pub is : IfSome old (λ v. file given ≡ v.table)
  pub left : IfSome new (λ v. file back ≡ v.table)
  pub rose : Rose (faults given) (faults back)

-- each of these batches, or none where one of them is none
abbrev pub all_of : List (Option (List Pair)) → Option (List (List Pair))
all_of [] = Some []
all_of (None ∷ bs) = None
all_of (Some b ∷ bs) = option_map (λ more. b ∷ more) (all_of bs)

abbrev pub batches_listed : (FileName → Option (List ℕ)) → Result (List Entry) NotATable → Option (List (List Pair))
batches_listed files (Ok es) = all_of (map (λ e. batch_of (files_of files e)) es)
batches_listed files (Err fault) = None

abbrev pub held_by : List ℕ → (FileName → Option (List ℕ)) → Option File → Option (List (List Pair))
held_by dataset files None = Some []
held_by dataset files (Some f) = batches_listed files (listed dataset f.reads)

-- The batches that a dataset holds, in the order of its table: those that the listed entries stand for. There are none
-- where there is no table, and it isn't said where the bytes are no table or an entry stands for no batch.
abbrev pub held : List ℕ → Contents → Option (List (List Pair))
held dataset v = held_by dataset v.files v.table
