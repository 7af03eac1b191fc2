use Rattle.std.proofs.Common.{◌≡◌, string_bytes, vec_len, Option}
use Rattle.fd_disk.specs.Folders.{Left}
use Rattle.fd_disk.specs.Outstanding.{IsDatasetImage}
use Rattle.fd_disk.specs.declared.file.File.{File}
use Rattle.fd_disk_mem.specs.Out.{AreApart, AreOf, parts_with}
use Rattle.fd_disk_mem.proofs.crash.give_shelves.Given as goal

-- so far each image of what is there is one of what was there
abbrev pub invariant-shelves : goal.invariant-shelves
invariant-shelves l = AreOf (string_bytes l.folder.name) l.shelves.items
    × AreApart l.shelves.items
    × ((table : Option File) (left : Left) → IsDatasetImage (parts_with l.folder table l.shelves.items) left → IsDatasetImage (parts_with l.fn.folder table l.fn.shelves.items) left)
    × (l.folder.table_out ≡ l.fn.folder.table_out)
    × (string_bytes l.folder.name ≡ string_bytes l.fn.folder.name)

abbrev pub decreases-shelves : goal.decreases-shelves
decreases-shelves l = vec_len l.shelves
