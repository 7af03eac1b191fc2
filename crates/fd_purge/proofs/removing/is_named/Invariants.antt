use Rattle.std.proofs.Common.{◌≡◌, false, take}
use Rattle.fd_disk.specs.declared.folders.FileKind.{FileKind}
use Rattle.fd_disk.specs.Names.{name_of}
use Rattle.fd_purge.specs.Purging.{are_named}
use Rattle.fd_purge.proofs.removing.is_named.Given as goal

abbrev pub invariant-loop-i : goal.invariant-loop-i
invariant-loop-i l = record {
  none : (kind : FileKind) → are_named (take l.i l.entries) (name_of l.entry.writer l.entry.seq kind) ≡ false;
}
