use Rattle.std.proofs.Common.{◌<◌, ◌*◌, ◌^◌, ap, ◌∙◌, arith}
use Rattle.std.proofs.Math.Nat.{mod-eq_of_lt}
use Rattle.fd_packing.proofs.Digits.{is_wide, is_narrow, narrow_by}
use Rattle.fd_packing.proofs.width.shifted.Goals as goal

pub returns-then-shifted_digits-gt127 : goal.returns-then-shifted_digits-gt127
returns-then-shifted_digits-gt127 c = λ lt. omega (arith, is_wide (c.args.x * 2 ^ c.args.by) (omega (arith, c.if-shifted_digits-gt127.true, c.shifted_digits.ensures)))

pub overflow_shl-result : goal.overflow_shl-result
overflow_shl-result c =
    let narrow = is_narrow (c.args.x * 2 ^ c.args.by) (omega (arith, c.if-shifted_digits-gt127.false, c.shifted_digits.ensures)) in
    omega (arith, narrow_by c.args.x c.args.by (omega arith) narrow)

pub returns : goal.returns
returns c =
    let narrow = is_narrow (c.args.x * 2 ^ c.args.by) (omega (arith, c.if-shifted_digits-gt127.false, c.shifted_digits.ensures)) in
    let same = ap (λ k. k * 2 ^ c.args.by) c.from.ensures in
    let fits : c.from.result * 2 ^ c.args.by < 2 ^ 128 = omega (arith, narrow, same) in
    (narrow, mod-eq_of_lt fits ∙ same)
