use Rattle.std.proofs.Common.{map}
use Rattle.std.specs.List.{AllZip}
use Rattle.fd_finding.specs.Spots.{place_key}
use Rattle.fd_overlay.specs.Searching.{SearchedTo}
use Rattle.fd_overlay.specs.Spots.{shown}
use Rattle.fd_overlay.proofs.finding.find_over.Given as goal

abbrev pub invariant-loop-i : goal.invariant-loop-i
invariant-loop-i g l = AllZip (SearchedTo (shown l.layers) l.i) (map place_key l.places) l.spots.items
