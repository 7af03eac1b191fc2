-- A dataset in memory whose parts are handed out.
use Rattle.std.specs.Prelude.{◌≡◌, ◌==◌, if◌then◌else◌, ℕ, List, [], ◌∷◌, Option, Some, None, option_map, string_bytes}
use Rattle.fd_disk.specs.declared.file.File.{File}
use Rattle.fd_disk.specs.Outstanding.{Parts, Shelved}
use Rattle.fd_file_mem.specs.Calls.{file_of}
use Rattle.fd_disk_mem.specs.Drawers.{bytes_among, is_named}
use Rattle.fd_disk_mem.specs.Slots.{contents_of}
use Rattle.fd_file_mem.specs.declared.disk.MemDisk.{MemDisk}
use Rattle.fd_disk_mem.specs.declared.folder.MemFolder.{MemFolder}
use Rattle.fd_disk_mem.specs.declared.shelf.MemShelf.{MemShelf}

abbrev pub shelved : MemShelf → Shelved
shelved s = record { kept = bytes_among s.kept.items; created = is_named s.kept.items }

-- the shelves that are out, by their writers
abbrev pub shelves_in : List MemShelf → ℕ → Option Shelved
shelves_in [] w = None
shelves_in (s ∷ ss) w = if w == s.writer then Some (shelved s) else shelves_in ss w

abbrev pub parts_with : MemFolder → Option File → List MemShelf → Parts
parts_with folder table shelves = record { folder = contents_of folder.table folder.files; table = table; shelves = shelves_in shelves }

abbrev pub parts_of : MemFolder → Option MemDisk → List MemShelf → Parts
parts_of folder table shelves = parts_with folder (option_map (λ d. file_of d.file) table) shelves

-- no two shelves have one writer
abbrev pub AreApart : List MemShelf → Type 0
AreApart [] = Unit {0}
AreApart (s ∷ ss) = (shelves_in ss s.writer ≡ None) × AreApart ss

-- each shelf is of this dataset
abbrev pub AreOf : List ℕ → List MemShelf → Type 0
AreOf name [] = Unit {0}
AreOf name (s ∷ ss) = (string_bytes s.name ≡ name) × AreOf name ss
