use Rattle.std.proofs.Common.{◌≡◌, List, length, All}
use Rattle.fd_ahead.specs.Places.{Open}
use Rattle.fd_ahead.specs.Reading.{IsJob, IsRead}
use Rattle.fd_ahead.proofs.stock.take_over.Given as goal

abbrev pub invariant-loop-i : goal.invariant-loop-i
invariant-loop-i g l = record {
  long : length l.jobs ≡ length l.fn.jobs;
  both : (os : List Open) → All (IsJob os) l.fn.jobs → All (IsRead os) l.fn.ready.items → All (IsJob os) l.jobs × All (IsRead os) l.ready.items;
}
