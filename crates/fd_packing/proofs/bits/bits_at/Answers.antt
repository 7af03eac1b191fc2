use Rattle.std.proofs.Common.{◌<◌, ℕ, ◌/◌, ◌-◌, ◌+◌, ◌*◌, ◌%◌, ◌^◌, arith, ap, ◌∙◌, subst, sym}
use Rattle.std.proofs.lemmas.Nat.{one_shl}
use Rattle.fd_packing.proofs.BitLemmas.{number_cut, number_at-lt}
use Rattle.fd_packing.proofs.bits.bits_at.Goals as goal

pub returns-clause-value : goal.returns-clause-value
returns-clause-value c =
    let past = (c.args.at + c.args.width + 7) / 8 in
    let first = c.args.at / 8 in
    let after = 8 * past - (c.args.at + c.args.width) in
    let cut = number_cut c.args.bytes.now c.args.at c.args.width first past (λ i. omega (arith, c.type_inv.bytes i)) (omega arith) (omega arith) (omega arith) (omega arith) in
    ap (λ n. c.big_endian-all.result / 2 ^ after % n) (one_shl c.args.width 128 (omega arith))
    ∙ ap (λ n. n / 2 ^ after % 2 ^ c.args.width) c.big_endian-all.ensures ∙ cut

pub returns-clause-fits : goal.returns-clause-fits
returns-clause-fits c = let P : ℕ → Type 0 = λ (n : ℕ). n < 2 ^ c.args.width in subst P (sym (returns-clause-value c)) (number_at-lt c.args.bytes.now c.args.at c.args.width)
