use Rattle.std.proofs.Common.{◌≡◌, ap, ℤ, arith}
use Rattle.std.specs.Int.{w64, cast_signed, cast_unsigned}
use Rattle.std.proofs.lemmas.Int.{to_z-of_z}
use Rattle.fd_scaled.specs.Decimal.{below}
use Rattle.fd_scaled.proofs.Powers.{no_less, below_positive}
use Rattle.fd_scaled.proofs.decimals.both_lowered.Goals as goal

pub returns-in_default : goal.returns-in_default
returns-in_default c = λ lt.
    let same : cast_signed w64 (cast_unsigned w64 c.args.two) ≡ c.args.two = to_z-of_z w64 c.args.two c.ranges.two in
    c.in_default.ensures (omega (arith, ap (λ (e : ℤ). below 2 e) same, no_less (below 2 c.args.two) (below 10 c.args.ten) (below_positive 10 c.args.ten (omega arith))))
