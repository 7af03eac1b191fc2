use Rattle.std.proofs.Common.{◌≤◌, List, ◌++◌, length, take}
use Rattle.fd_casting.specs.Steps.{Posed, posed}
use Rattle.fd_casting.specs.Done.{IsCourse}
use Rattle.fd_casting.proofs.casting.cast_lane.Given as goal

abbrev pub invariant-loop-i : goal.invariant-loop-i
invariant-loop-i l = record {
  lines : l.i ≤ length l.lane.lines;
  course : (ps : List Posed) → IsCourse l.schema l.script.dataset l.messages ps l.fn.course → IsCourse l.schema l.script.dataset l.messages (ps ++ take l.i (posed l.lane.given l.lane.steps l.lane.lines)) l.course;
}
