use Rattle.fd_retrieve.specs.Located.{ArePlacesOf}
use Rattle.fd_retrieve.proofs.locating.copies_of.Given as goal

abbrev pub invariant-loop-i : goal.invariant-loop-i
invariant-loop-i l = ArePlacesOf l.places l.keys l.i l.group.items
