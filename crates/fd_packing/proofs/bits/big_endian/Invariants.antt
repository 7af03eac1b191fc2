use Rattle.std.proofs.Common.{◌≡◌, ◌<◌, ◌^◌, take}
use Rattle.std.specs.Int.Digits.{number_from_digits}
use Rattle.fd_packing.proofs.bits.big_endian.Given as goal

abbrev pub invariant-loop-b : goal.invariant-loop-b
invariant-loop-b l = (l.all ≡ number_from_digits 256 (take l.b-index l.bytes)) × (l.all < 256 ^ l.b-index)
