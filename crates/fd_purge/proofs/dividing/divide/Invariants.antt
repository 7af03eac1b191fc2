use Rattle.std.proofs.Common.{◌≡◌, ◌+◌, length, take, drop}
use Rattle.fd_entries.specs.Table.{AllFit}
use Rattle.fd_purge.specs.Kept.{masked, unmasked}
use Rattle.fd_purge.specs.Purging.{first_over}
use Rattle.fd_purge.proofs.dividing.divide.Given as goal

abbrev pub invariant-loop-i : goal.invariant-loop-i
invariant-loop-i l = record {
  kept : l.divided.kept.items ≡ unmasked (take l.i l.masks) (take l.i l.entries);
  dropped : l.divided.dropped.items ≡ masked (take l.i l.masks) (take l.i l.entries);
  count : length l.divided.kept.items + length l.divided.dropped.items ≡ l.i;
  fit : AllFit 0 l.divided.kept.items;
  within : first_over 0 0 l.masks l.entries ≡ first_over l.i (length l.divided.kept.items) (drop l.i l.masks) (drop l.i l.entries);
}
