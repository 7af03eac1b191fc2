use Rattle.std.proofs.Common.{List, All}
use Rattle.fd_ahead.specs.Places.{AreIn, Open}
use Rattle.fd_ahead.specs.Reading.{IsWanted}
use Rattle.fd_ahead.proofs.dealing.fill.Given as goal

abbrev pub invariant-loop-i : goal.invariant-loop-i
invariant-loop-i l = record {
  wanted : (os : List Open) → AreIn os l.located → All (IsWanted os) l.fn.wanted.items → All (IsWanted os) l.wanted.items;
}
