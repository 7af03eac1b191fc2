-- What is damaged stays.
use Rattle.std.specs.Prelude.{ℕ, List}
use Rattle.fd_disk.specs.Folders.{Holdings, folder_at}
use Rattle.fd_recovery.specs.Recovered.{IsUndamaged}
use Rattle.fd_stored.specs.Store.{IsLookedAt}

-- Each dataset of which the table's bytes are none, or a file is absent or too short, or an index has another digest, has the files
-- that it had, and its table as it was, or synced, and what was synced read as one of its images.
abbrev pub SparesDamaged : Holdings → Holdings → Type 0
SparesDamaged h i = (name : List ℕ) → ¬ (IsUndamaged name (folder_at h name)) → IsLookedAt (folder_at h name) (folder_at i name)
