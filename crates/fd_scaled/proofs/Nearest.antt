-- The text is that of the nearest number.
use Rattle.std.proofs.Common.{◌≡◌, subst, ℕ, zero, suc, ◌+◌, ◌*◌, ◌/◌, ◌%◌, ◌^◌, ◌<◌, ◌≤◌, List, [], ◌∷◌, ◌++◌, length, cond, refl, sym, ap, ◌∙◌, inl, inr, arith}
use Rattle.std.specs.Prelude.{map, IfOk, Result, Ok, Err, String, ◌==◌}
use Rattle.std.specs.declared.alloc.Global.{Global}
use Rattle.std.specs.String.{string_bytes}
use Rattle.std.specs.Fmt.{decimal}
use Rattle.std.specs.Int.Digits.{number_from_digits, number_from_digits_after, AllBelowBase}
use Rattle.std.proofs.Math.Nat.{pow-succ', one-le-pow, mul-le-mul_left, div-add-mod}
use Rattle.std.proofs.Math.Arith.{mod-mul}
use Rattle.std.proofs.lemmas.Bool.{cases_lt, cases_eq}
use Rattle.std.proofs.lemmas.Bool.Decides.{nat_tests}
use Rattle.fd_scaled.specs.declared.Scaled.{Scaled}
use Rattle.fd_scaled.specs.declared.fault.DecimalFault.{DecimalFault}
use Rattle.fd_scaled.specs.Decimal.{IsNearest, IsFixedPoint, IsRounded, rounded, last_digits, fixed_point, rounded_text, numerator, denominator}
use Rattle.fd_scaled.specs.Answers.{DecimalsAre}
use Rattle.fd_scaled.proofs.Powers.{denominator_positive}

-- the quotient is the nearest where the rest is at most half, and its successor where the rest is at least half
nearest_below : (x y q r : ℕ) → x ≡ q * y + r → r < y → 2 * r ≤ y → (2 * r ≡ y → q % 2 ≡ 0) → IsNearest x y q
nearest_below x y q r e lt half tie = record {
  above = omega arith;
  below = omega arith;
  tie = λ t. tie (elim t [ inl a ↦ omega arith | inr b ↦ absurd (omega arith) ]);
}

nearest_above : (x y q r : ℕ) → x ≡ q * y + r → r < y → y ≤ 2 * r → (2 * r ≡ y → (q + 1) % 2 ≡ 0) → IsNearest x y (q + 1)
nearest_above x y q r e lt half tie = record {
  above = omega arith;
  below = omega arith;
  tie = λ t. tie (elim t [ inl a ↦ absurd (omega arith) | inr b ↦ omega arith ]);
}

pub nearest_rounded : (x y : ℕ) → 0 < y → IsNearest x y (rounded x y)
nearest_rounded x y some =
    let q = x / y in
    let r = x % y in
    let e : x ≡ x / y * y + x % y = omega (arith, div-add-mod x y) in
    let lt : x % y < y = omega arith in
    elim (cases_lt y (2 * (x % y))) [
      | inl over ↦
          let is : rounded x y ≡ x / y + 1 = grind (arith, nat_tests) in
          let P : ℕ → Type 0 = λ (k : ℕ). IsNearest x y k in
          subst P (sym is) (nearest_above x y (x / y) (x % y) e lt (omega arith) (λ same. absurd (omega arith)))
      | inr under ↦
          elim (cases_eq (2 * (x % y)) y) [
            | inl same ↦
                elim (cases_eq (x / y % 2) 1) [
                  | inl odd ↦
                      let is : rounded x y ≡ x / y + 1 = grind (arith, nat_tests) in
                      let P : ℕ → Type 0 = λ (k : ℕ). IsNearest x y k in
                      subst P (sym is) (nearest_above x y (x / y) (x % y) e lt (omega arith) (λ _. omega arith))
                  | inr even ↦
                      let is : rounded x y ≡ x / y = grind (arith, nat_tests) in
                      let P : ℕ → Type 0 = λ (k : ℕ). IsNearest x y k in
                      subst P (sym is) (nearest_below x y (x / y) (x % y) e lt under (λ _. omega arith))
                ]
            | inr differ ↦
                let is : rounded x y ≡ x / y = grind (arith, nat_tests) in
                let P : ℕ → Type 0 = λ (k : ℕ). IsNearest x y k in
                subst P (sym is) (nearest_below x y (x / y) (x % y) e lt under (λ same. absurd (differ same)))
          ]
    ]

-- the digits of the last d places
abbrev low_digits : ℕ → ℕ → List ℕ
low_digits zero r = []
low_digits (suc d) r = (r / 10 ^ d % 10) ∷ low_digits d r

low_digits-below : (d r : ℕ) → AllBelowBase 10 (low_digits d r)
low_digits-below zero r = tt
low_digits-below (suc d) r = (omega arith, low_digits-below d r)

length-low_digits : (d r : ℕ) → length (low_digits d r) ≡ d
length-low_digits zero r = refl
length-low_digits (suc d) r = ap suc (length-low_digits d r)

last_digits-low : (d r : ℕ) → last_digits d r ≡ map (λ x. 48 + x) (low_digits d r)
unfolding last_digits
last_digits-low zero r = refl
last_digits-low (suc d) r = ap (λ (t : List ℕ). (48 + r / 10 ^ d % 10) ∷ t) (last_digits-low d r)

number_low : (n d r : ℕ) → number_from_digits_after 10 n (low_digits d r) ≡ n * 10 ^ d + r % 10 ^ d
number_low n zero r = omega arith
number_low n (suc d) r =
    let ten : 0 < 10 = omega arith in
    let positive : 0 < 10 ^ d = omega (arith, one-le-pow d 10 ten) in
    let digit : r % (10 * 10 ^ d) ≡ (r / 10 ^ d % 10) * 10 ^ d + r % 10 ^ d = mod-mul r ten positive in
    number_low (n * 10 + r / 10 ^ d % 10) d r ∙ rw (pow-succ' 10 d, digit) (omega arith)

pub fixed_point-is : (d r : ℕ) → IsFixedPoint d r (fixed_point d r)
fixed_point-is d r = record {
  whole = r / 10 ^ d;
  digits = low_digits d r;
  spelled = ap (λ (t : List ℕ). decimal (r / 10 ^ d) ++ cond (d == 0) [] (46 ∷ t)) (last_digits-low d r);
  each = low_digits-below d r;
  many = length-low_digits d r;
  value =
      let ten : 0 < 10 = omega arith in
      let positive : 0 < 10 ^ d = omega (arith, one-le-pow d 10 ten) in
      let e : r / 10 ^ d * 10 ^ d + number_from_digits 10 (low_digits d r) ≡ r = omega (arith, number_low 0 d r) in e;
}

pub rounded_text-is : (s : Scaled) (d : ℕ) → IsRounded s d (rounded_text s d)
rounded_text-is s d = record {
  k = rounded (numerator s d) (denominator s d);
  digits = fixed_point d (rounded (numerator s d) (denominator s d));
  nearest = nearest_rounded (numerator s d) (denominator s d) (denominator_positive s d);
  written = fixed_point-is d (rounded (numerator s d) (denominator s d));
  sign = refl;
}

pub answers_are_rounded : (s : Scaled) (d : ℕ) (r : Result (String Global) DecimalFault) → DecimalsAre s d r → IfOk r (λ t. IsRounded s d (string_bytes t))
answers_are_rounded s d (Ok t) h = let P : List ℕ → Type 0 = λ (bs : List ℕ). IsRounded s d bs in subst P (sym h.1) (rounded_text-is s d)
answers_are_rounded s d (Err e) h = tt

-- no other whole number is the nearest
nearest_not_less : (x y j k : ℕ) → 0 < y → IsNearest x y j → IsNearest x y k → j < k → ⊥
nearest_not_less x y j k some a b lt =
    let more : y * (j + 1) ≤ y * k = mul-le-mul_left y (let le : j + 1 ≤ k = omega arith in le) in
    let here = a.above in
    let there = b.below in
    let same : y * (j + 1) ≡ y * k = omega arith in
    let next : k ≡ j + 1 = elim (cases_lt (j + 1) k) [
      | inl far ↦ absurd (let two : y * (j + 2) ≤ y * k = mul-le-mul_left y (let le : j + 2 ≤ k = omega arith in le) in omega arith)
      | inr near ↦ omega arith
    ] in
    let odd_j : j % 2 ≡ 0 = a.tie (inl (omega arith)) in
    let odd_k : k % 2 ≡ 0 = b.tie (inr (omega arith)) in
    omega arith

pub nearest_is_one : (x y j k : ℕ) → 0 < y → IsNearest x y j → IsNearest x y k → j ≡ k
nearest_is_one x y j k some a b =
    elim (cases_lt j k) [
      | inl lt ↦ absurd (nearest_not_less x y j k some a b lt)
      | inr ge ↦ elim (cases_lt k j) [ inl lt ↦ absurd (nearest_not_less x y k j some b a lt) | inr le ↦ omega arith ]
    ]
