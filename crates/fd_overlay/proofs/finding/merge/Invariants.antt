use Rattle.std.proofs.Common.{◌≡◌, ◌++◌, drop}
use Rattle.fd_overlay.specs.Searching.{merged}
use Rattle.fd_overlay.proofs.finding.merge.Given as goal

abbrev pub invariant-loop-i : goal.invariant-loop-i
invariant-loop-i l = l.all.items ++ merged l.layer (drop l.i l.spots) l.rest ≡ merged l.layer l.spots l.found
