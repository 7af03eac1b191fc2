use Rattle.std.proofs.Common.{◌≡◌, ℕ, zero, suc, ◌+◌, ◌-◌, ◌*◌, ◌/◌, ◌^◌, ◌<◌, ◌≤◌, ap, subst, ◌∙◌, inl, inr, arith}
use Rattle.std.specs.Int.Digits.{digits_of}
use Rattle.std.proofs.lemmas.Int.Digits.{length-digits_of_step, length-digits_of-le, number_digits_of, number_lt, all_below_base_digits_of}
use Rattle.std.proofs.lemmas.Nat.{leading_top, pow-add, pow_pos}
use Rattle.std.proofs.Math.Nat.{pow-suc, pow-le-pow_right, mul-le-mul_left}
use Rattle.std.proofs.lemmas.Bool.{cases_lt}
use lib.Count.{count_leading_zeros}
use Rattle.fd_packing.specs.Value.{digits}

pub below_digits : (n : ℕ) → n < 2 ^ digits n
below_digits n = subst (λ k. k < 2 ^ digits n) (number_digits_of 2 n (omega arith)) (number_lt 2 (digits_of 2 n) (all_below_base_digits_of 2 n (omega arith)))

pub digits_is : (j a : ℕ) → 2 ^ j ≤ a → a < 2 ^ suc j → digits a ≡ suc j
digits_is zero a low high =
    let one : a ≡ 1 = omega arith in
    length-digits_of_step 2 a (omega arith) (omega arith) ∙ ap (λ k. digits k + 1) (let none : a / 2 ≡ 0 = omega arith in none)
digits_is (suc j) a low high =
    let p = pow-suc 2 j in
    let q = pow-suc 2 (suc j) in
    let e : digits a ≡ digits (a / 2) + 1 = length-digits_of_step 2 a (omega arith) (omega (arith, p, pow_pos j)) in
    omega (arith, e, digits_is j (a / 2) (omega (arith, p)) (omega (arith, q)))

-- a number of j + 1 digits, shifted
shifted_is : (j x by : ℕ) → 2 ^ j ≤ x → x < 2 ^ suc j → digits (x * 2 ^ by) ≡ suc (j + by)
shifted_is j x by low high =
    let p = pow_pos by in
    let below : 2 ^ (j + by) ≤ x * 2 ^ by = omega (arith, pow-add 2 j by, mul-le-mul_left (2 ^ by) low) in
    let up : suc x ≤ 2 ^ suc j = high in
    let same : 2 ^ suc (j + by) ≡ 2 ^ suc j * 2 ^ by = ap (λ k. 2 ^ k) (let e : suc (j + by) ≡ suc j + by = omega arith in e) ∙ pow-add 2 (suc j) by in
    let above : x * 2 ^ by < 2 ^ suc (j + by) = omega (arith, mul-le-mul_left (2 ^ by) up, same, p) in
    digits_is (j + by) (x * 2 ^ by) below above

pub shifted_digits_are : (x by : ℕ) → 0 < x → x < 2 ^ 64 → 64 - count_leading_zeros 64 x + by ≡ digits (x * 2 ^ by)
shifted_digits_are x by some small =
    let top = leading_top 64 x some small in
    omega (arith, top.1, shifted_is top.0 x by top.2 top.3)

-- more digits than 127, or not
pub is_wide : (n : ℕ) → 127 < digits n → 2 ^ 127 ≤ n
is_wide n more = elim (cases_lt n (2 ^ 127)) [ inl lt ↦ absurd (omega (arith, length-digits_of-le 2 127 n (omega arith) lt)) | inr ge ↦ ge ]

pub is_narrow : (n : ℕ) → digits n ≤ 127 → n < 2 ^ 127
is_narrow n le = let two : 0 < 2 = omega arith in omega (arith, below_digits n, pow-le-pow_right two le)

pub narrow_by : (x by : ℕ) → 0 < x → x * 2 ^ by < 2 ^ 127 → by < 127
narrow_by x by some lt =
    elim (cases_lt by 127) [
      | inl less ↦ less
      | inr ge ↦ absurd (let two : 0 < 2 = omega arith in omega (arith, pow-le-pow_right two ge, mul-le-mul_left (2 ^ by) some))
    ]
