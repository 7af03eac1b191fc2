-- What the calls on a draft do to its two files, step by step.
use Rattle.std.specs.Prelude.{◌≡◌, ◌⊎◌, ◌+◌, ℕ, List, length, Option, option_map}
use Rattle.sha2.specs.Sha256.{sha256}
use Rattle.fd_disk.specs.declared.file.File.{File}
use Rattle.fd_disk.specs.Folders.{WhereTold}
use Rattle.fd_disk.specs.Images.{IsAfterFailedWrite, synced, written}

-- the file with these bytes at a place, and behind them their SHA-256, in two writes
abbrev pub digested : ℕ → List ℕ → File → File
digested at bytes f = written (written f at bytes) (at + length bytes) (sha256 bytes)

-- a put that stopped: its first write failed, or the first was done and the second failed
abbrev pub StopsPutting : ℕ → List ℕ → File → File → Type 0
StopsPutting at bytes f g = IsAfterFailedWrite f at (length bytes) g ⊎ IsAfterFailedWrite (written f at bytes) (at + length bytes) 32 g

-- the file with these bytes at its front, where told
abbrev pub with_front : List ℕ → Option File → Option File
with_front bytes = option_map (λ f. written f 0 bytes)

-- A sealing that stopped. Its steps in their order: the fields are synced, the index is written at the front of its
-- file, the index is synced. Those before the one that failed are done, and none after it was begun.
abbrev pub StopsSealing : List ℕ → Option File → Option File → Option File → Option File → Type 0
StopsSealing bytes fields index fields' index' =
    ((fields' ≡ fields) × (index' ≡ index))
    ⊎ ((fields' ≡ option_map synced fields) × WhereTold index index' (λ f g. IsAfterFailedWrite f 0 (length bytes) g))
    ⊎ ((fields' ≡ option_map synced fields) × (index' ≡ with_front bytes index))
