-- What is found and what is copied.
use Rattle.std.specs.Prelude.{◌≡◌, ◌≤◌, ◌+◌, ◌++◌, ℕ, List, length, take, drop, Option, Some, option_map, IfSome}
use Rattle.sha2.specs.declared.Sha256.{Sha256}
use Rattle.sha2.specs.Sha256.{sha256}
use Rattle.sha2.specs.Hashers.{Holds256}
use Rattle.fd_entries.specs.declared.batch.Pair.{Pair}
use Rattle.fd_entries.specs.Batches.{of_batch}
use Rattle.fd_io.specs.Streams.{Takes}
use Rattle.fd_index.specs.Records.{Record}
use Rattle.fd_segment.specs.Held.{Files, batch_of, pairs_of}

-- the bytes at a place of this length
abbrev pub bytes_at : List ℕ → Option (ℕ × ℕ) → Option (List ℕ)
bytes_at fields place = option_map (λ p. take p.1 (drop p.0 fields)) place

-- The bytes at the place are those that the key has in the batch for which the files stand, where told.
abbrev pub IsOfBatch : Files → List ℕ → Option (ℕ × ℕ) → Type 0
IsOfBatch f key place = (b : List Pair) → batch_of f ≡ Some b → IfSome f.fields (λ fields. bytes_at fields place ≡ of_batch b key)

-- These are the records of the batch for which the files stand, where told.
abbrev pub IsBatchIndex : Files → List Record → Type 0
IsBatchIndex f rs = (b : List Pair) → batch_of f ≡ Some b → IfSome f.fields (λ fields. b ≡ pairs_of (take f.entry.fields_len fields) rs)

-- these are the bytes of the field file at this place, as far as it tells them
pub record IsPiece (fields : Option (List ℕ)) (at len : ℕ) (bytes : List ℕ) : Type 0 where
  pub long : length bytes ≡ len
  pub told : IfSome fields (λ f. bytes ≡ take len (drop at f))

-- a sink that had taken old has taken those bytes more
abbrev pub IsCopied : Option (List ℕ) → ℕ → ℕ → Option (List ℕ) → Option (List ℕ) → Type 0
IsCopied fields at len old new = (bytes : List ℕ) × IsPiece fields at len bytes × Takes old new bytes

-- the same for a front of them
abbrev pub IsCopiedInPart : Option (List ℕ) → ℕ → ℕ → Option (List ℕ) → Option (List ℕ) → Type 0
IsCopiedInPart fields at len old new = (part : ℕ) × (part ≤ len) × IsCopied fields at part old new

-- a hasher has taken in those bytes more
abbrev pub IsHashed : Option (List ℕ) → ℕ → ℕ → Sha256 → Sha256 → Type 0
IsHashed fields at len old new = (bytes : List ℕ) × IsPiece fields at len bytes × ((m : List ℕ) → Holds256 old m → Holds256 new (m ++ bytes))

-- the SHA-256 of those bytes
abbrev pub IsDigestOf : Option (List ℕ) → ℕ → ℕ → List ℕ → Type 0
IsDigestOf fields at len digest = (bytes : List ℕ) × IsPiece fields at len bytes × (digest ≡ sha256 bytes)

-- behind the bytes at the place stands their SHA-256
abbrev pub IsDigestedAt : Option (List ℕ) → ℕ → ℕ → Type 0
IsDigestedAt fields at len = (digest : List ℕ) × IsPiece fields (at + len) 32 digest × IsDigestOf fields at len digest
