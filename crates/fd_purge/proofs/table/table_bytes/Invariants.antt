use Rattle.std.proofs.Common.{◌≡◌, ◌++◌, ◌∷◌, [], take}
use Rattle.fd_entries.specs.Table.{header, slots_of}
use Rattle.fd_purge.proofs.table.table_bytes.Given as goal

abbrev pub invariant-loop-i : goal.invariant-loop-i
invariant-loop-i g l = record {
  bytes : l.bytes.items ≡ header l.dataset ++ slots_of (take l.i l.entries) ++ 0 ∷ [];
}
