-- Where no number is too wide, each one fits.
use Rattle.std.proofs.Common.{◌≡◌, ℕ, zero, suc, ◌+◌, ◌<◌, ◌≤◌, List, [], ◌∷◌, length, get_or, true, false, Some, None, cond, arith, inl, inr, ap}
use Rattle.std.specs.Prelude.{position, nat_le, not}
use Rattle.std.specs.List.{position_or_len}
use Rattle.std.proofs.lemmas.Bool.{cases_lt, lt-ltb}
use Rattle.std.proofs.lemmas.Bool.Decides.{nat_tests}

-- how many numbers stand before the first that is too wide
abbrev front : ℕ → List ℕ → ℕ
front limit xs = position_or_len (λ x. nat_le limit x) xs

all_past : (limit : ℕ) (xs : List ℕ) → position (λ x. nat_le limit x) xs ≡ None → length xs ≤ front limit xs
all_past limit xs none =
    elim (cases_lt (front limit xs) (length xs)) [
      | inl lt ↦
          let some : position (λ x. nat_le limit x) xs ≡ Some (front limit xs) = ap (λ b. cond b (Some (front limit xs)) None) (lt-ltb (front limit xs) (length xs) lt) in
          absurd (let e : ⊥ = cc in e)
      | inr le ↦ le
    ]

goes_on : (limit x : ℕ) (xs : List ℕ) → suc (length xs) ≤ front limit (x ∷ xs) → (x < limit) × (length xs ≤ front limit xs)
goes_on limit x xs le =
    elim (cases_lt x limit) [
      | inl lt ↦
          let e : nat_le limit x ≡ false = grind (arith, nat_tests) in
          let next : front limit (x ∷ xs) ≡ 1 + front limit xs = ap (λ b. cond (not b) (1 + front limit xs) 0) e in
          (lt, omega arith)
      | inr ge ↦
          let e : nat_le limit x ≡ true = grind (arith, nat_tests) in
          let next : front limit (x ∷ xs) ≡ 0 = ap (λ b. cond (not b) (1 + front limit xs) 0) e in
          absurd (omega arith)
    ]

each_below : (limit : ℕ) (xs : List ℕ) (k : ℕ) → length xs ≤ front limit xs → k < length xs → get_or xs k 0 < limit
each_below limit [] k le lt = absurd (omega arith)
each_below limit (x ∷ xs) zero le lt = (goes_on limit x xs le).0
each_below limit (x ∷ xs) (suc k) le lt = each_below limit xs k (goes_on limit x xs le).1 (omega arith)

pub each_fits : (limit : ℕ) (xs : List ℕ) → position (λ x. nat_le limit x) xs ≡ None → (k : ℕ) → k < length xs → get_or xs k 0 < limit
each_fits limit xs none k lt = each_below limit xs k (all_past limit xs none) lt
