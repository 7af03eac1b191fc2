use Rattle.std.proofs.Common.{◌≡◌, drop}
use Rattle.fd_script.specs.Grammar.{foreign_byte}
use Rattle.fd_script.proofs.lines.foreign_byte.Given as goal

abbrev pub invariant-loop-b : goal.invariant-loop-b
invariant-loop-b l = foreign_byte l.line ≡ foreign_byte (drop l.b-index l.line)
