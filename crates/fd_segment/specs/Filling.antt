-- What a draft holds.
use Rattle.std.specs.Prelude.{◌≡◌, ◌+◌, ℕ, Bool, true, List, [], ◌∷◌, ◌++◌, length, take, Option, Some, IfSome, IsSome}
use Rattle.sha2.specs.Sha256.{sha256}
use Rattle.fd_disk.specs.declared.file.File.{File}
use Rattle.fd_disk.specs.declared.folders.FileKind.TheVariants.{Fields, Index}
use Rattle.fd_disk.specs.Names.{name_of}
use Rattle.fd_entries.specs.declared.batch.Pair.{Pair}
use Rattle.fd_entries.specs.Batches.{KeysFit, distinct}
use Rattle.fd_index.specs.Records.{Record, StandsFor}
use Rattle.fd_index.specs.Held.{Held}
use Rattle.fd_index.specs.Pages.{index_of}
use Rattle.fd_segment.specs.Held.{Alike, Standing, batch_of}

-- the batch that a draft is of, and whether both its files tell their bytes
pub record Origin : Type 0 where
  pub writer : ℕ
  pub seq : ℕ
  pub dataset : List ℕ
  pub told : Bool

-- What contracts see of a draft: whose batch it is, its index so far, the end of the last digest that was put, what a
-- read gives of the field file, where told, both files as they stand, where told, and how many calls of each have failed.
pub record Filling : Type 0 where
  pub origin : Origin
  pub held : Held
  pub end : ℕ
  pub fields : Option (List ℕ)
  pub field_file : Option File
  pub index_file : Option File
  pub field_faults : ℕ
  pub index_faults : ℕ

-- a field file: the bytes of each pair, and behind them their SHA-256
abbrev pub fields_of : List Pair → List ℕ
fields_of [] = []
fields_of (p ∷ ps) = (p.bytes ++ sha256 p.bytes) ++ fields_of ps

-- its length, with 32 bytes for each digest
abbrev pub stored : List Pair → ℕ
stored [] = 0
stored (p ∷ ps) = (length p.bytes + 32) + stored ps

-- for each pair the record of its bytes, which stand one after the other from this place on
abbrev pub places_from : ℕ → List Pair → List Record
places_from at [] = []
places_from at (p ∷ ps) = record { key = p.key; at = at; len = length p.bytes } ∷ places_from (at + (length p.bytes + 32)) ps

-- These are the pairs that were put: keys and lengths by the index, the bytes where the field file tells them.
pub record Puts (d : Filling) (b : List Pair) : Type 0 where
  pub records : StandsFor (places_from 0 b) d.held.records
  pub end : d.end ≡ stored b
  pub bytes : IfSome d.fields (λ f. take (stored b) f ≡ fields_of b)
  pub keys : KeysFit b

-- all of a draft but its counts of faults
pub record HoldsSame (d e : Filling) : Type 0 where
  pub origin : e.origin ≡ d.origin
  pub held : e.held ≡ d.held
  pub end : e.end ≡ d.end
  pub fields : e.fields ≡ d.fields

-- the segment is of this batch, and its files were created for it
pub record IsOf (origin : Origin) (s : Standing) : Type 0 where
  pub writer : s.files.entry.writer ≡ origin.writer
  pub seq : s.files.entry.seq ≡ origin.seq
  pub dataset : s.dataset ≡ origin.dataset
  pub index : s.index_made ≡ Some (name_of origin.writer origin.seq Index)
  pub fields : s.fields_made ≡ Some (name_of origin.writer origin.seq Fields)

-- A segment that was sealed from these pairs: the numbers of its entry, and the batch that its files stand for.
pub record IsSealed (d : Filling) (b : List Pair) (s : Standing) : Type 0 where
  pub fields : s.files.entry.fields ≡ distinct b
  pub index_len : s.files.entry.index_len ≡ length (index_of d.held.records)
  pub fields_len : s.files.entry.fields_len ≡ stored b
  pub digest : s.files.entry.digest ≡ Some (sha256 (index_of d.held.records))
  pub told : d.origin.told ≡ true → IsSome (batch_of s.files)
  pub alike : (c : List Pair) → batch_of s.files ≡ Some c → Alike b c
