use Rattle.std.proofs.Common.{◌≡◌, ◌++◌, ◌-◌}
use Rattle.fd_packing.specs.Bits.{binary}
use Rattle.fd_packing.proofs.writer.BitWriter.push_number.Given as goal

abbrev pub invariant-loop-i : goal.invariant-loop-i
invariant-loop-i l = l.self ++ binary (l.width - l.i) l.number ≡ l.fn.self ++ binary l.width l.number
