-- Tables by the records of indexes alone: which keys they have, and how many bytes at each.
use Rattle.std.specs.Prelude.{◌≡◌, ℕ, List, Option, map}
use Rattle.std.specs.List.{AllZip}
use Rattle.fd_dataset.specs.Listed.{listing}
use Rattle.fd_entries.specs.declared.batch.Pair.{Pair}
use Rattle.fd_index.specs.Records.{Record}
use Rattle.fd_segment.specs.Held.{Files, IsIndexOf, Standing}
use Rattle.fd_io.specs.Streams.{Takes}
use Rattle.fd_inventory.specs.Indexes.{Tells}
use Rattle.fd_inventory.specs.Shown.{AreLengths}

-- the index of a segment has these records, where told
abbrev pub HasRecords : Standing → List Record → Type 0
HasRecords s rs = IsIndexOf s.files.entry s.files.index rs

-- The index of an entry has, where told, records with the keys of the batch, and with the lengths of its bytes.
abbrev pub IsRecorded : Files → List Pair → Type 0
IsRecorded f b = (rs : List Record) × IsIndexOf f.entry f.index rs × AreLengths rs b

-- the same of each of these segments
abbrev pub AreRecorded : List Standing → List (List Pair) → Type 0
AreRecorded ss t = AllZip IsRecorded (map (λ s. s.files) ss) t

-- The indexes of the segments were read, and this holds of each table with the keys and the lengths of their records.
pub record ByRecords (ss : List Standing) (P : List (List Pair) → Type 0) : Type 0 where
  pub records : List (List Record)
  pub has : AllZip HasRecords ss records
  pub of : (t : List (List Pair)) → AllZip AreLengths records t → P t

-- The text is that of the table that the segments stand for, where each stands for a batch, and in any case that of a table whose
-- keys and lengths are those of their indexes.
pub record IsTextBy (text : List (List Pair) → List ℕ) (ss : List Standing) (x : List ℕ) : Type 0 where
  pub sound : (t : List (List Pair)) → Tells (map listing ss) t → x ≡ text t
  pub table : List (List Pair)
  pub recorded : AreRecorded ss table
  pub is : x ≡ text table

-- such a text was taken
abbrev pub TakesBy : (List (List Pair) → List ℕ) → List Standing → Option (List ℕ) → Option (List ℕ) → Type 0
TakesBy text ss before now = (x : List ℕ) × IsTextBy text ss x × Takes before now x
