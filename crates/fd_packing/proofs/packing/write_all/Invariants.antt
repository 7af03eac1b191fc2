use Rattle.std.proofs.Common.{◌≡◌, take}
use Rattle.fd_packing.specs.Bits.{packed}
use Rattle.fd_packing.proofs.packing.write_all.Given as goal

abbrev pub invariant-loop-x : goal.invariant-loop-x
invariant-loop-x l = l.writer ≡ packed l.bits (take l.x-index l.xs)
