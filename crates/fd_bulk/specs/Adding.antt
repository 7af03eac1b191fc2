-- The listings of workers: of which pairs they are, and that their files are there.
use Rattle.std.specs.Prelude.{◌≡◌, ◌≢◌, ℕ, List, [], Option, Some}
use Rattle.fd_disk.specs.declared.folders.FileName.{FileName}
use Rattle.fd_entries.specs.declared.batch.Listing.{Listing}
use Rattle.fd_entries.specs.declared.batch.Pair.{Pair}
use Rattle.fd_segment.specs.Held.{batch_of}
use Rattle.fd_recovery.specs.Recovered.{files_of}
use Rattle.fd_stored.specs.Store.{HasOnly}

-- there are such pairs, and what the listing stands for, where it is told, has only these
pub record IsOnlyOf (pairs : List Pair) (l : Listing) : Type 0 where
  pub some : pairs ≢ []
  pub only : (c : List Pair) → l.batch ≡ Some c → HasOnly pairs c

-- both files of the listing are among these, and stand for its batch
abbrev pub IsHeldBy : (FileName → Option (List ℕ)) → Listing → Type 0
IsHeldBy files l = (c : List Pair) × (l.batch ≡ Some c) × (batch_of (files_of files l.entry) ≡ Some c)
