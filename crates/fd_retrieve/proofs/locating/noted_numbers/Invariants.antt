use Rattle.std.proofs.Common.{◌≤◌, List, ℕ, length}
use Rattle.std.specs.BTreeMap.{get_by_text}
use Rattle.fd_retrieve.proofs.LocatingLemmas.{IsNumberFrom}
use Rattle.fd_retrieve.proofs.locating.noted_numbers.Given as goal

abbrev pub invariant-loop-left : goal.invariant-loop-left
invariant-loop-left g l = record {
  few : l.left ≤ length l.opened;
  noted : (t : List ℕ) → IsNumberFrom l.opened l.left t (get_by_text l.noted t);
}

abbrev pub decreases-loop-left : goal.decreases-loop-left
decreases-loop-left g l = l.left
