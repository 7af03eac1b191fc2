-- The reference value is exact.
use Rattle.std.proofs.Common.{◌≡◌, ℕ, zero, suc, ◌+◌, ◌*◌, ◌/◌, ◌%◌, ◌^◌, ◌<◌, ℤ, pos, ◌+ℤ◌, Bool, true, false, cond, Some, None, refl, sym, ap, ◌∙◌, subst, inl, inr, arith}
use Rattle.std.specs.Prelude.{IfSome, ◌==◌}
use Rattle.std.specs.Int.{w32, bit_at, trailing_zeros}
use Rattle.std.proofs.lemmas.Bool.{cases_eq}
use Rattle.std.proofs.lemmas.Bool.Decides.{nat_tests}
use Rattle.std.proofs.lemmas.Nat.{mod-pow-add}
use Rattle.std.proofs.lemmas.Nat.Bits.{bit_at-trailing_zeros}
use Rattle.std.proofs.Math.Nat.{div-add-mod}
use Rattle.fd_packing.specs.declared.ieee.Reference.{Reference}
use Rattle.fd_packing.specs.Reference.{exponent, fraction, is_below_zero, significand, power, reduced, reference_of, IsOddPart, IsReduced}

-- a number whose last t bits are 0 is divided by 2^t
no_rest : (n t : ℕ) → ((i : ℕ) → i < t → bit_at n i ≡ 0) → n % 2 ^ t ≡ 0
no_rest n zero zeros = omega arith
no_rest n (suc t) zeros =
    let last : n / 2 ^ t % 2 ≡ 0 = zeros t (omega arith) in
    let rest : n % 2 ^ t ≡ 0 = no_rest n t (λ i lt. zeros i (omega arith)) in
    let e : n % 2 ^ (1 + t) ≡ 0 = mod-pow-add n 1 t ∙ omega (arith, ap (λ b. b * 2 ^ t) last, rest) in
    ap (λ k. n % 2 ^ k) (let s : suc t ≡ 1 + t = omega arith in s) ∙ e

odd_part : (n : ℕ) (p : ℤ) → 0 < n → n < 2 ^ 32 → IsOddPart n p (n / 2 ^ trailing_zeros w32 n) (p +ℤ pos (trailing_zeros w32 n))
odd_part n p some lt =
    let t = bit_at-trailing_zeros w32 n some lt in
    record {
      zeros = trailing_zeros w32 n;
      exact = omega (arith, div-add-mod n (2 ^ trailing_zeros w32 n), no_rest n (trailing_zeros w32 n) t.2);
      raised = refl;
      odd = t.1;
    }

-- what holds of n * 2^p, reduced
abbrev Facts : Bool → ℕ → ℤ → Reference → Type 0
Facts negative n p r = (r.negative ≡ negative) × (n ≡ 0 → (r.m ≡ 0) × (r.k ≡ pos 0)) × (0 < n → IsOddPart n p r.m r.k)

reduced-facts : (negative : Bool) (n : ℕ) (p : ℤ) → n < 2 ^ 32 → Facts negative n p (reduced negative n p)
reduced-facts negative n p lt =
    let none : Reference = record { negative = negative; m = 0; k = pos 0 } in
    let some : Reference = record { negative = negative; m = n / 2 ^ trailing_zeros w32 n; k = p +ℤ pos (trailing_zeros w32 n) } in
    let P : Bool → Type 0 = λ (b : Bool). Facts negative n p (cond b none some) in
    elim (cases_eq n 0) [
      | inl e ↦ let t : (n == 0) ≡ true = grind (arith, nat_tests) in subst P (sym t) (refl, λ _. (refl, refl), λ more. absurd (omega arith))
      | inr ne ↦ let t : (n == 0) ≡ false = grind (arith, nat_tests) in subst P (sym t) (refl, λ z. absurd (ne z), λ more. odd_part n p more lt)
    ]

if_finite : {X : Type 0} (b : Bool) (r : X) (P : X → Type 0) → P r → IfSome (cond b None (Some r)) P
if_finite b r P holds = elim b as (λ t. IfSome (cond t None (Some r)) P) [ true ↦ tt | false ↦ holds ]

significand-small : (raw : ℕ) → significand raw < 2 ^ 32
significand-small raw =
    elim (exponent raw == 0) as (λ b. cond b (fraction raw) (2 ^ 23 + fraction raw) < 2 ^ 32) [ true ↦ omega arith | false ↦ omega arith ]

pub reference_reduced : (raw : ℕ) → raw < 2 ^ 32 → IfSome (reference_of raw) (IsReduced raw)
unfolding reference_of
reference_reduced raw lt =
    let f = reduced-facts (is_below_zero raw) (significand raw) (power raw) (significand-small raw) in
    let is : IsReduced raw (reduced (is_below_zero raw) (significand raw) (power raw)) = record { sign = f.0; zero = f.1; some = f.2 } in
    if_finite (exponent raw == 255) (reduced (is_below_zero raw) (significand raw) (power raw)) (IsReduced raw) is
