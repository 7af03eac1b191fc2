use Rattle.std.proofs.Common.{◌≤◌, ◌∷◌, List, ℕ, length, drop}
use Rattle.fd_index.specs.Records.{keys}
use Rattle.fd_purge.specs.Reads.{Knows}
use Rattle.fd_purge.proofs.keys.add_keys.Given as goal

abbrev pub invariant-loop-left : goal.invariant-loop-left
invariant-loop-left l = record {
  few : l.left ≤ length l.fn.index;
  known : (later : List (List (List ℕ))) → Knows l.fn.known later → Knows l.known (drop l.left (keys l.index) ∷ later);
}

abbrev pub decreases-loop-left : goal.decreases-loop-left
decreases-loop-left l = l.left
