use Rattle.std.proofs.Common.{◌≡◌, ◌++◌, length, take, drop}
use Rattle.fd_machine.specs.Machine.{put_seen}
use Rattle.fd_machine.proofs.state.see.Given as goal

abbrev pub invariant-loop-i : goal.invariant-loop-i
invariant-loop-i l = record {
  same : l.readers ≡ l.fn.readers;
  end : l.i-end ≡ length l.readers;
  passed : take l.i l.readers ++ put_seen (drop l.i l.readers) l.r l.n ≡ put_seen l.readers l.r l.n;
}
