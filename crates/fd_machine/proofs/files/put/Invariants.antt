use Rattle.std.proofs.Common.{◌≡◌, ◌++◌, length, take, drop}
use Rattle.fd_machine.specs.Machine.{put_file}
use Rattle.fd_machine.proofs.files.put.Given as goal

abbrev pub invariant-loop-i : goal.invariant-loop-i
invariant-loop-i l = record {
  same : l.files ≡ l.fn.files;
  end : l.i-end ≡ length l.files;
  passed : take l.i l.files ++ put_file (drop l.i l.files) l.name l.file ≡ put_file l.files l.name l.file;
}
