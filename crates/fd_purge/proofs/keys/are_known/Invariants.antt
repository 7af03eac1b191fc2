use Rattle.std.proofs.Common.{◌≡◌, ◌≤◌, true, List, ℕ, length, drop}
use Rattle.fd_index.specs.Records.{keys}
use Rattle.fd_purge.specs.Kept.{is_masked}
use Rattle.fd_purge.specs.Reads.{Knows}
use Rattle.fd_purge.proofs.keys.are_known.Given as goal

abbrev pub invariant-loop-left : goal.invariant-loop-left
invariant-loop-left l = record {
  few : l.left ≤ length l.fn.index;
  masked : (later : List (List (List ℕ))) → Knows l.known later → is_masked (drop l.left (keys l.index)) later ≡ true;
}

abbrev pub decreases-loop-left : goal.decreases-loop-left
decreases-loop-left l = l.left
