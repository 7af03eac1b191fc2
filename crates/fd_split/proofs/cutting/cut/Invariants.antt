use Rattle.std.proofs.Common.{◌≡◌, ◌≤◌, length}
use Rattle.fd_split.proofs.Loops.{Cuts}
use Rattle.fd_split.proofs.cutting.cut.Given as goal

abbrev pub invariant-loop-round : goal.invariant-loop-round
invariant-loop-round l = record {
  cuts : Cuts l.rounds l.round-index l.force l.lacking l.parts.items;
  number : l.number ≡ l.round-index;
  few : length l.rounds ≤ 134217728;
}
