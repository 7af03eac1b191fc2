use Rattle.std.proofs.Common.{◌≡◌, length}
use Rattle.fd_retrieve.specs.Located.{AreGroups}
use Rattle.fd_retrieve.proofs.locating.groups_of.Given as goal

abbrev pub invariant-loop-i : goal.invariant-loop-i
invariant-loop-i l = record {
  long : length l.groups.items ≡ l.count;
  groups : AreGroups l.numbers l.i l.groups.items;
}
