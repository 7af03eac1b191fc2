use Rattle.std.proofs.Common.{List, All}
use Rattle.fd_ahead.specs.Places.{Open}
use Rattle.fd_ahead.specs.Reading.{IsRead}
use Rattle.fd_ahead.proofs.stock.take_all.Given as goal

abbrev pub invariant-loop-i : goal.invariant-loop-i
invariant-loop-i g l = record {
  both : (os : List Open) → All (IsRead os) l.fn.read.items → All (IsRead os) l.fn.ready.items → All (IsRead os) l.read.items × All (IsRead os) l.ready.items;
}
