use Rattle.std.proofs.Common.{All, take}
use Rattle.fd_casting.specs.Steps.{HasLines, all_posed}
use Rattle.fd_casting.specs.Done.{IsCourse}
use Rattle.fd_casting.proofs.casting.cast.Given as goal

abbrev pub invariant-loop-number : goal.invariant-loop-number
invariant-loop-number l = record {
  lines : All HasLines (take l.number l.script.lanes);
  course : IsCourse l.schema l.script.dataset l.messages (all_posed (take l.number l.script.lanes)) l.course;
}
