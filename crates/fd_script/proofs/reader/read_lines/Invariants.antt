use Rattle.std.proofs.Common.{◌≡◌, ◌≤◌, length}
use Rattle.fd_script.specs.Reading.{Stands}
use Rattle.fd_script.proofs.reader.read_lines.Given as goal

abbrev pub invariant-lines : goal.invariant-lines
invariant-lines l = Stands l.text l.rest l.number l.read × (length l.text ≤ 1048576)

abbrev pub decreases-lines : goal.decreases-lines
decreases-lines l = length l.rest
