use Rattle.std.proofs.Common.{◌≡◌, ◌<◌, ℕ, length, get_or, Option, None}
use Rattle.fd_overlay.specs.declared.spot.LayerSpot.{LayerSpot}
use Rattle.fd_overlay.proofs.finding.nowhere.Given as goal

abbrev pub invariant-loop-i : goal.invariant-loop-i
invariant-loop-i l = record {
  long : length l.spots.items ≡ l.i;
  none : (k : ℕ) (d : Option LayerSpot) → k < l.i → get_or l.spots.items k d ≡ None;
}
