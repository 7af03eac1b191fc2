-- What the two files of an entry stand for.
use Rattle.std.specs.Prelude.{◌≡◌, ◌+◌, ◌&&◌, ℕ, Bool, true, false, nat_le, bytes_eq, if◌then◌else◌, List, [], ◌∷◌, length, map, take, drop, Option, Some, None, is_some, IfSome, Result, Ok, Err}
use Rattle.sha2.specs.Sha256.{sha256}
use Rattle.fd_disk.specs.declared.folders.FileName.{FileName}
use Rattle.fd_entries.specs.declared.batch.Pair.{Pair}
use Rattle.fd_entries.specs.declared.table.Entry.{Entry}
use Rattle.fd_entries.specs.Batches.{of_batch}
use Rattle.fd_index.specs.Records.{Record}
use Rattle.fd_index.specs.Reading.{index_at}

-- an entry, and the bytes of its index file and of its field file, where told
pub record Files : Type 0 where
  pub entry : Entry
  pub index : Option (List ℕ)
  pub fields : Option (List ℕ)

-- how many bytes stand behind those of each record: their digest, where the entry has digests
abbrev pub behind : Entry → ℕ
behind e = if is_some e.digest then 32 else 0

-- no record, with so many bytes behind it, ends beyond the first n bytes
abbrev pub end_by : ℕ → ℕ → List Record → Bool
end_by more n [] = true
end_by more n (r ∷ rs) = nat_le (r.at + r.len + more) n && end_by more n rs

-- for each record its key, with the bytes at its place
abbrev pub pairs_of : List ℕ → List Record → List Pair
pairs_of fields rs = map (λ r. record { key = r.key; bytes = take r.len (drop r.at fields) }) rs

-- the records that the first bytes of an index file, as many as the entry says, read as, or the first place in them
-- that isn't in the format
abbrev pub records_in : Entry → List ℕ → Result (List Record) ℕ
records_in e index = index_at (take e.index_len index)

abbrev pub pairs_within : ℕ → ℕ → List ℕ → Result (List Record) ℕ → Option (List Pair)
pairs_within more n fields (Ok rs) = if end_by more n rs then Some (pairs_of fields rs) else None
pairs_within more n fields (Err at) = None

-- the batch that the bytes of an entry's two files stand for, whatever their digests
abbrev pub batch_by_records : Entry → List ℕ → List ℕ → Option (List Pair)
batch_by_records e index fields =
    if nat_le e.index_len (length index) && nat_le e.fields_len (length fields)
    then pairs_within (behind e) e.fields_len (take e.fields_len fields) (records_in e index)
    else None

-- behind the bytes at this place stands their SHA-256
abbrev pub is_digested : List ℕ → ℕ → ℕ → Bool
is_digested fields at len = bytes_eq (take 32 (drop (at + len) fields)) (sha256 (take len (drop at fields)))

-- behind the bytes of each record
abbrev pub are_digested : List ℕ → List Record → Bool
are_digested fields [] = true
are_digested fields (r ∷ rs) = is_digested fields r.at r.len && are_digested fields rs

abbrev pub digests_within : List ℕ → Result (List Record) ℕ → Bool
digests_within fields (Ok rs) = are_digested fields rs
digests_within fields (Err at) = false

-- a digest is the SHA-256 of the index, and behind the bytes of each of its records stands theirs
abbrev pub digests_stand : Option (List ℕ) → List ℕ → List ℕ → Result (List Record) ℕ → Bool
digests_stand None index fields records = true
digests_stand (Some digest) index fields records = bytes_eq (sha256 index) digest && digests_within fields records

-- the batch that the bytes of an entry's two files stand for
abbrev pub batch_in : Entry → List ℕ → List ℕ → Option (List Pair)
batch_in e index fields =
    if digests_stand e.digest (take e.index_len index) (take e.fields_len fields) (records_in e index)
    then batch_by_records e index fields
    else None

-- the same, where both files are told
abbrev pub batch_told : Entry → Option (List ℕ) → Option (List ℕ) → Option (List Pair)
batch_told e (Some index) (Some fields) = batch_in e index fields
batch_told e (Some index) None = None
batch_told e None fields = None

-- the index of an entry has these records, where told
abbrev pub IsIndexOf : Entry → Option (List ℕ) → List Record → Type 0
IsIndexOf e index rs = IfSome index (λ bytes. records_in e bytes ≡ Ok rs)

-- The batch that an entry stands for: a pair for each record of the first bytes of its index file, with the bytes out of
-- the first bytes of its field file. There is none where a file isn't told or is shorter than the entry says, where the
-- index isn't in the format, and where a record ends beyond the fields. Where the entry has a digest, a record ends 32 bytes
-- later, and there is none either where the digest isn't that of those bytes of the index file, or where the 32 bytes
-- behind a record's bytes aren't theirs.
unfoldable pub batch_of : Files → Option (List Pair)
batch_of f = batch_told f.entry f.index f.fields

-- two batches have the same bytes at each key
abbrev pub Alike : List Pair → List Pair → Type 0
Alike b c = (key : List ℕ) → of_batch b key ≡ of_batch c key

-- What contracts see of a segment: its files, the dataset's text, and the names under which a shelf created them.
pub record Standing : Type 0 where
  pub files : Files
  pub dataset : List ℕ
  pub index_made : Option FileName
  pub fields_made : Option FileName

-- What contracts see of a lens: the files that it reads, how many calls of the reader of each have failed, how many reads
-- of each were made, and how many bytes these asked for.
pub record Opened : Type 0 where
  pub files : Files
  pub index_faults : ℕ
  pub field_faults : ℕ
  pub index_reads : ℕ
  pub index_asked : ℕ
  pub field_reads : ℕ
  pub field_asked : ℕ
