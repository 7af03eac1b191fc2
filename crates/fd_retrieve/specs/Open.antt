-- A dataset that was opened, and what it says of the store.
use Rattle.std.specs.Prelude.{◌≡◌, ℕ, List, [], ◌∷◌, map, Option, Some, Ok, slice_get, if◌then◌else◌}
use Rattle.std.specs.Str.{bytes_eq}
use Rattle.fd_disk.specs.declared.file.File.{File}
use Rattle.fd_disk.specs.Folders.{Contents, Holdings, folder_at}
use Rattle.fd_entries.specs.declared.batch.Pair.{Pair}
use Rattle.fd_entries.specs.declared.table.Entry.{Entry}
use Rattle.fd_entries.specs.Table.{listed}
use Rattle.fd_dataset.specs.Listed.{listing}
pub use Rattle.fd_ahead.specs.Places.{Open}
use Rattle.fd_recovery.specs.declared.fault.OpenFault.{OpenFault}
use Rattle.fd_recovery.specs.declared.fault.OpenFault.TheVariants as faults
use Rattle.fd_recovery.specs.Recovered.{all_of, files_of, held}
use Rattle.fd_stored.specs.Causes.{BadFile, BadTable}
use Rattle.fd_stored.specs.Store.{Stands}

-- the batches that the segments stand for, where each stands for one
abbrev pub table_of : Open → Option (List (List Pair))
table_of o = all_of (map (λ l. l.batch) (map listing o.shown))

-- the table of a dataset by those that are open; one that isn't open has no batches
abbrev pub table_in : List Open → List ℕ → Option (List (List Pair))
table_in [] name = Some []
table_in (o ∷ os) name = if bytes_eq name o.name then table_of o else table_in os name

abbrev pub names_of : List Open → List (List ℕ)
names_of os = map (λ o. o.name) os

-- the first of the datasets with this text has this number, from 0
abbrev pub IsFirstNamed : List Open → List ℕ → ℕ → Type 0
IsFirstNamed os name n = (o : Open) × (slice_get os n ≡ Some o) × (o.name ≡ name) × (table_in os name ≡ table_of o)

-- the segments are those of the entries that the table lists, with the files that the folder has
pub record AreListed (v : Contents) (o : Open) : Type 0 where
  pub table : File
  pub entries : List Entry
  pub table_is : v.table ≡ Some table
  pub lists : listed o.name table.reads ≡ Ok entries
  pub files : map (λ s. s.files) o.shown ≡ map (files_of v.files) entries

-- The dataset was opened as its folder has it.
pub record IsOpenOf (v : Contents) (o : Open) : Type 0 where
  pub held : table_of o ≡ held o.name v
  pub listed : AreListed v o

abbrev pub IsOpenIn : Holdings → Open → Type 0
IsOpenIn h o = IsOpenOf (folder_at h o.name) o

-- what is said to be broken in the dataset stands there
abbrev pub StandsAsSaid : {F : Type 0} → List ℕ → Contents → OpenFault F → Type 0
StandsAsSaid name v (faults.Disk f) = Unit {0}
StandsAsSaid name v (faults.NotATable at want found) = Stands name v (BadTable (record { at = at; want = want; found = found }))
StandsAsSaid name v (faults.Damaged d) = Stands name v (BadFile d)
StandsAsSaid name v (faults.TooMany count) = Unit {0}
StandsAsSaid name v faults.NoMemory = Unit {0}
