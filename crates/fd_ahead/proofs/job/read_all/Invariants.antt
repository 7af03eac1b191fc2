use Rattle.std.proofs.Common.{All}
use Rattle.fd_ahead.specs.Places.{Keeps}
use Rattle.fd_ahead.specs.Reading.{IsRead}
use Rattle.fd_ahead.proofs.job.read_all.Given as goal

abbrev pub invariant-loop-i : goal.invariant-loop-i
invariant-loop-i g l = record {
  segments : Keeps l.opened l.segments;
  read : All (IsRead l.opened) l.read.items;
}
