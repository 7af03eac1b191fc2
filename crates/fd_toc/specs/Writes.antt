-- A write and the sync that makes it firm.
use Rattle.std.specs.Prelude.{◌≡◌, ◌⊎◌, ℕ, List, length, Option, Some, None}
use Rattle.fd_disk.specs.declared.file.File.{File}
use Rattle.fd_disk.specs.Images.{IsAfterFailedWrite, IsImage, synced, written}

-- the write failed, or it succeeded and isn't synced
abbrev pub IsUnsynced : File → ℕ → List ℕ → File → Type 0
IsUnsynced f at bytes g = IsAfterFailedWrite f at (length bytes) g ⊎ (g ≡ written f at bytes)

-- the file at a moment from before the write until after the sync
abbrev pub IsMeanwhile : File → ℕ → List ℕ → File → Type 0
IsMeanwhile f at bytes g = IsUnsynced f at bytes g ⊎ (g ≡ synced (written f at bytes))

-- a crash at such a moment may leave these bytes
abbrev pub LeftMeanwhile : Option File → ℕ → List ℕ → List ℕ → Type 0
LeftMeanwhile (Some f) at bytes c = (g : File) × (IsMeanwhile f at bytes g × IsImage g c)
LeftMeanwhile None at bytes c = ⊥
