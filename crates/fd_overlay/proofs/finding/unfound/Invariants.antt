use Rattle.std.proofs.Common.{◌≡◌, ◌++◌, map, drop}
use Rattle.fd_finding.specs.Spots.{place_key}
use Rattle.fd_overlay.specs.Searching.{unfound}
use Rattle.fd_overlay.proofs.finding.unfound.Given as goal

abbrev pub invariant-loop-i : goal.invariant-loop-i
invariant-loop-i l = map place_key l.others.items ++ unfound (map place_key (drop l.i l.places)) (drop l.i l.spots) ≡ unfound (map place_key l.places) l.spots
