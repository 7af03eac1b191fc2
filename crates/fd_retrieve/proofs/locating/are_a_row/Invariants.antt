use Rattle.fd_retrieve.specs.Located.{IsRow}
use Rattle.fd_retrieve.proofs.locating.are_a_row.Given as goal

abbrev pub invariant-loop-i : goal.invariant-loop-i
invariant-loop-i l = IsRow l.first l.keys l.i
