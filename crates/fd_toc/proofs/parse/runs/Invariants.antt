use Rattle.fd_toc.specs.Slots.{IsAt}
use Rattle.fd_toc.proofs.parse.runs.Given as goal

abbrev pub invariant-loop-i : goal.invariant-loop-i
invariant-loop-i l = IsAt l.bytes l.entries.items l.i l.rest
