use Rattle.std.proofs.Common.{◌≡◌, take}
use Rattle.fd_packing.specs.Bits.{bits_of}
use Rattle.fd_packing.specs.Value.{ones}
use Rattle.fd_packing.proofs.map.ones_before.Given as goal

abbrev pub invariant-loop-i : goal.invariant-loop-i
invariant-loop-i l = l.count ≡ ones (take l.i (bits_of l.bytes))
