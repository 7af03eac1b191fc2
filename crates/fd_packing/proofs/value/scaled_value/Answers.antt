use Rattle.std.proofs.Common.{◌≡◌, ℤ, ℕ, pos, ◌+ℤ◌, ◌-ℤ◌, neg_ℤ, refl, ap, ◌∙◌, rules}
use Rattle.std.specs.Int.{w32, w128, cast_signed, cast_unsigned}
use Rattle.fd_packing.specs.Value.{common, lifted, signed, scaled_value}
use Rattle.fd_packing.proofs.value.scaled_value.Goals as goal

pub returns : goal.returns
unfolding scaled_value
returns c =
    let r = c.args.r.now in
    let two : cast_signed w32 (cast_unsigned w32 c.common_power-two.result) ≡ common c.args.r.now c.args.e.now c.args.width = search rules in
    let ten : cast_signed w32 (cast_unsigned w32 (pos 0 -ℤ cast_signed w32 (cast_unsigned w32 c.args.d.now))) ≡ neg_ℤ c.args.d.now = search rules in
    let sum : cast_signed w128 (cast_unsigned w128 c.signed_sum.result) ≡ c.signed_sum.result = search rules in
    let first : c.lifted-first.result ≡ lifted c.args.r.now.m c.args.r.now.k (common c.args.r.now c.args.e.now c.args.width) =
    c.lifted-first.ensures.value ∙ ap (λ (q : ℤ). lifted c.args.r.now.m c.args.r.now.k q) two in
    let second : c.lifted-second.result ≡ lifted c.args.x c.args.e.now (common c.args.r.now c.args.e.now c.args.width) =
    c.lifted-second.ensures.value ∙ ap (λ (q : ℤ). lifted c.args.x c.args.e.now q) two in
    let n : cast_signed w128 (cast_unsigned w128 c.signed_sum.result) ≡ signed c.args.r.now.negative (lifted c.args.r.now.m c.args.r.now.k (common c.args.r.now c.args.e.now c.args.width)) +ℤ pos (lifted c.args.x c.args.e.now (common c.args.r.now c.args.e.now c.args.width)) =
    sum ∙ c.signed_sum.ensures ∙ ap (λ (a : ℕ). signed c.args.r.now.negative a +ℤ pos c.lifted-second.result) first ∙ ap (λ (b : ℕ). signed c.args.r.now.negative (lifted c.args.r.now.m c.args.r.now.k (common c.args.r.now c.args.e.now c.args.width)) +ℤ pos b) second in
    rw (n, two, ten) refl
