-- The files that shelves kept.
use Rattle.std.specs.Prelude.{ℕ, if◌then◌else◌, ◌||◌, Bool, false, List, [], ◌∷◌, Option, None, option_map}
use Rattle.fd_disk.specs.declared.folders.FileName.{FileName}
use Rattle.fd_disk.specs.Names.{same_name}
use Rattle.fd_disk_mem.specs.declared.drawers.Kept.{Kept}
use Rattle.fd_disk_mem.specs.declared.drawers.Drawers.{Drawers, Empty, More'}

-- the newest file of this name
abbrev pub bytes_among : List Kept → FileName → Option (List ℕ)
bytes_among [] n = None
bytes_among (k ∷ ks) n = if same_name k.name n then option_map (λ v. v.items) k.bytes else bytes_among ks n

abbrev pub is_named : List Kept → FileName → Bool
is_named [] n = false
is_named (k ∷ ks) n = same_name k.name n || is_named ks n

-- what lies in the first drawer that has the name
abbrev pub bytes_in : Drawers → FileName → Option (List ℕ)
bytes_in Empty n = None
bytes_in (More' ks p rest) n = if is_named ks.items n then bytes_among ks.items n else bytes_in rest n

-- the drawers below the first
abbrev pub below : Drawers → Drawers
below Empty = Empty
below (More' ks p rest) = rest
