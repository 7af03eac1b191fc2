-- What the calls leave of a dataset once they have ended.
use Rattle.std.specs.Prelude.{◌≡◌, ◌⊎◌}
use Rattle.fd_disk.specs.Folders.{Contents, IsFolderImage, Left}

-- What a crash leaves of the dataset from now on has P, but where it was left untouched.
abbrev pub IsLeftFirmly : (Left → Type 0) → Contents → Contents → Type 0
IsLeftFirmly P v w = (w ≡ v) ⊎ ((left : Left) → IsFolderImage w left → P left)
