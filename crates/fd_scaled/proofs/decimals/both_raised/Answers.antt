use Rattle.std.proofs.Common.{◌≡◌, ◌*◌, ap, ℤ, arith}
use Rattle.std.specs.Int.{w64, cast_signed, cast_unsigned}
use Rattle.std.proofs.lemmas.Int.{to_z-of_z}
use Rattle.fd_scaled.specs.Decimal.{above}
use Rattle.fd_scaled.proofs.Powers.{no_less, above_positive}
use Rattle.fd_scaled.proofs.decimals.both_raised.Goals as goal

pub returns-in_default : goal.returns-in_default
returns-in_default c = λ lt.
    let same : cast_signed w64 (cast_unsigned w64 c.args.two) ≡ c.args.two = to_z-of_z w64 c.args.two c.ranges.two in
    c.in_default.ensures (omega (arith, ap (λ (e : ℤ). c.args.x * above 2 e) same, no_less (c.args.x * above 2 c.args.two) (above 10 c.args.ten) (above_positive 10 c.args.ten (omega arith))))
