use Rattle.std.proofs.Common.{◌≡◌, ◌≢◌, ◌<◌, ◌-◌, ◌^◌, ℤ, sym, subst, rules}
use Rattle.std.specs.Prelude.{unsigned_abs}
use Rattle.std.specs.Int.{w32, w64, cast_signed, cast_unsigned}
use Rattle.fd_bytes.specs.Numbers.{signed, sign_and_magnitude}
use Rattle.fd_templates.proofs.Again.{signed_small, signed_there, halves}
use Rattle.fd_templates.proofs.octets.signed_value.Goals as goal

pub returns-clause-magnitude : goal.returns-clause-magnitude
returns-clause-magnitude c =
    let e : cast_signed w32 (cast_unsigned w32 (cast_signed w64 (cast_unsigned w64 c.signed.result))) ≡ signed c.args.bits c.args.raw = search rules in
    let P : ℤ → Type 0 = λ (z : ℤ). unsigned_abs z < 2 ^ (c.args.bits - 1) in
    subst P (sym e) (signed_small c.args.bits c.args.raw (halves c.args.bits c.requires.width) c.requires.fits)

pub returns-clause-there : goal.returns-clause-there
returns-clause-there c = λ there.
    let e : cast_signed w32 (cast_unsigned w32 (cast_signed w64 (cast_unsigned w64 c.signed.result))) ≡ signed c.args.bits c.args.raw = search rules in
    let P : ℤ → Type 0 = λ (z : ℤ). sign_and_magnitude c.args.bits z ≢ 2 ^ c.args.bits - 1 in
    subst P (sym e) (signed_there c.args.bits c.args.raw (halves c.args.bits c.requires.width) c.requires.fits there)
