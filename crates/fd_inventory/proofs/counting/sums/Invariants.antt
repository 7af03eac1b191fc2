use Rattle.std.proofs.Common.{◌≡◌, ◌≤◌, ◌*◌, ◌-◌, length, map, drop}
use Rattle.fd_outcome.specs.Rows.{sum_bytes, sum_fields}
use Rattle.fd_inventory.proofs.counting.sums.Given as goal

abbrev pub invariant-loop-left : goal.invariant-loop-left
invariant-loop-left g l = record {
  few : l.left ≤ length l.snapshot;
  most : length l.snapshot ≤ 65535;
  fields : l.fields ≡ sum_fields (drop l.left (map (λ s. s.files.entry) l.snapshot));
  bytes : l.bytes ≡ sum_bytes (drop l.left (map (λ s. s.files.entry) l.snapshot));
  small : l.fields ≤ (length l.snapshot - l.left) * 4294967296;
  short : l.bytes ≤ (length l.snapshot - l.left) * 18446744073709551616;
}

abbrev pub decreases-loop-left : goal.decreases-loop-left
decreases-loop-left g l = l.left
