use Rattle.std.proofs.Common.{◌≡◌, drop}
use Rattle.fd_index.specs.Reading.{zeros_at}
use Rattle.fd_index.proofs.reader.zeros_of.Given as goal

abbrev pub invariant-loop-i : goal.invariant-loop-i
invariant-loop-i l = zeros_at l.end l.bytes ≡ zeros_at l.end (drop l.i l.bytes)
