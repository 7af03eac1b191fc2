use Rattle.std.proofs.Common.{refl}
use Rattle.fd_packing.specs.Bits.{binary, bits_of}
use Rattle.fd_packing.proofs.writer.BitWriter.new.Goals as goal

pub returns : goal.returns
unfolding binary bits_of
returns c = rw c.new.ensures.items refl
