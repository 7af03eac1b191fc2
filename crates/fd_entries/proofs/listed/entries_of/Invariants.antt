use Rattle.std.proofs.Common.{◌≡◌, ◌≤◌, length, take}
use Rattle.fd_entries.specs.Numbers.{ListsSome}
use Rattle.fd_entries.proofs.listed.entries_of.Given as goal

abbrev pub invariant-loop-i : goal.invariant-loop-i
invariant-loop-i l = record {
  within : (t : ListsSome l.table) → l.i ≤ length t.entries;
  so_far : (t : ListsSome l.table) → l.entries ≡ take l.i t.entries;
}
