use Rattle.std.proofs.Common.{◌≡◌, ◌≤◌, List, ℕ, length, drop}
use Rattle.fd_segment.specs.Shared.{standings}
use Rattle.fd_purge.specs.Kept.{masks}
use Rattle.fd_purge.specs.Reads.{AreRead, Knows}
use Rattle.fd_purge.proofs.masks.masks.Given as goal

abbrev pub invariant-loop-left : goal.invariant-loop-left
invariant-loop-left g l = record {
  few : l.left ≤ length l.segments;
  long : length l.masked.items ≡ length l.segments;
  known : (kss : List (List (List ℕ))) → AreRead (standings l.segments) kss → Knows l.known (drop l.left kss);
  masks : (kss : List (List (List ℕ))) → AreRead (standings l.segments) kss → drop l.left l.masked.items ≡ masks (drop l.left kss);
}

abbrev pub decreases-loop-left : goal.decreases-loop-left
decreases-loop-left g l = l.left
