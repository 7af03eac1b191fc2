use Rattle.std.proofs.Common.{◌≡◌, ◌-◌, List}
use Rattle.fd_ahead.specs.Places.{Open}
use Rattle.fd_ahead.specs.Reading.{AreJoined, IsStock}
use Rattle.fd_ahead.proofs.stock.Stock+OpenSegments+F+Z+F.gather.Given as goal

abbrev pub invariant-loop-i : goal.invariant-loop-i
invariant-loop-i g l = record {
  stock : (os : List Open) → IsStock os l.fn.self → IsStock os l.self;
  joined : (os : List Open) → IsStock os l.fn.self → AreJoined os l.located l.from (l.i - l.from) l.fn.joined.items l.joined.items;
  none : l.i ≡ l.from → l.joined.items ≡ l.fn.joined.items;
}
