use Rattle.std.proofs.Common.{◌≡◌, length}
use Rattle.fd_script.specs.Lines.{lines_of}
use Rattle.fd_script.specs.Grammar.{has_messages}
use Rattle.fd_script.proofs.lines.has_messages.Given as goal

abbrev pub invariant-lines : goal.invariant-lines
invariant-lines l = has_messages (lines_of l.text) ≡ has_messages (lines_of l.rest)

abbrev pub decreases-lines : goal.decreases-lines
decreases-lines l = length l.rest
