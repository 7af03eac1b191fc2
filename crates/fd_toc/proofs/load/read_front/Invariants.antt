use Rattle.std.proofs.Common.{◌≡◌, ◌≤◌, ◌-◌, IfSome, length, take}
use Rattle.fd_disk.specs.Moments.{LeavesOnly, MayLeave}
use Rattle.fd_toc.proofs.load.read_front.Given as goal

abbrev pub invariant-pieces : goal.invariant-pieces
invariant-pieces g l = record {
  file : g.T.Disk.file l.table ≡ g.T.Disk.file l.fn.table;
  left : LeavesOnly g.T.Disk.moment g.T.Disk.left_since l.fn.table l.table (MayLeave (g.T.Disk.file l.fn.table));
  name : g.T.Disk.name l.table ≡ g.T.Disk.name l.fn.table;
  later : g.T.Disk.faults l.fn.table ≤ g.T.Disk.faults l.table;
  bytes : IfSome (g.T.Disk.file l.fn.table) (λ f. l.bytes.items ≡ take (length l.bytes.items) f.reads);
}

abbrev pub decreases-pieces : goal.decreases-pieces
decreases-pieces g l = 4194561 - length l.bytes.items
