-- Names of files.
use Rattle.std.specs.Prelude.{◌&&◌, ◌==◌, Bool, true, false, ℕ}
use Rattle.fd_disk.specs.declared.folders.FileKind.{FileKind}
use Rattle.fd_disk.specs.declared.folders.FileKind.TheVariants.{Fields, Index}
use Rattle.fd_disk.specs.declared.folders.FileName.{FileName}

abbrev pub same_kind : FileKind → FileKind → Bool
same_kind Fields Fields = true
same_kind Index Index = true
same_kind Fields Index = false
same_kind Index Fields = false

-- the two names are one
abbrev pub same_name : FileName → FileName → Bool
same_name a b = (a.writer == b.writer) && (a.seq == b.seq) && same_kind a.kind b.kind

abbrev pub name_of : ℕ → ℕ → FileKind → FileName
name_of writer seq kind = record { writer = writer; seq = seq; kind = kind }
