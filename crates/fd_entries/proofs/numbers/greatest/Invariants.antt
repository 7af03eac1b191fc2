use Rattle.std.proofs.Common.{◌≡◌, ◌≤◌, length, take}
use Rattle.fd_entries.specs.Numbers.{greatest_seq}
use Rattle.fd_entries.specs.Numbers.{ListsSome}
use Rattle.fd_entries.proofs.numbers.greatest.Given as goal

abbrev pub invariant-loop-i : goal.invariant-loop-i
invariant-loop-i l = record {
  same : l.bytes ≡ l.fn.table;
  within : (t : ListsSome l.fn.table) → l.i ≤ length t.entries;
  so_far : (t : ListsSome l.fn.table) → l.greatest ≡ greatest_seq l.fn.w (take l.i t.entries);
}
