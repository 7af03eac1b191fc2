use Rattle.std.proofs.Common.{◌^◌}
use Rattle.std.proofs.lemmas.Nat.{pow_pos}
use Rattle.fd_packing.proofs.BitLemmas.{wide_is}
use Rattle.fd_packing.proofs.packing.is_wide.Goals as goal

pub returns-then-bits-lt64 : goal.returns-then-bits-lt64
returns-then-bits-lt64 c = wide_is c.args.x (2 ^ c.args.bits) (pow_pos c.args.bits)
