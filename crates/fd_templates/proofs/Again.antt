-- A number that was written is read again.
use Rattle.std.proofs.Common.{◌≢◌, ◌≤◌, ◌⊎◌, inl, inr, subst, refl, sym, zero, ◌≡◌, ℕ, ℤ, pos, negsuc, suc, ◌+◌, ◌-◌, ◌*◌, ◌/◌, ◌%◌, ◌^◌, ◌<◌, cond, true, false, ap, ◌∙◌, arith}
use Rattle.std.specs.Prelude.{Option, Some, None, IfSome, ◌-ℤ◌, unsigned_abs}
use Rattle.std.proofs.lemmas.Bool.{cases_lt, lt-ltb, le-ltb}
use Rattle.std.proofs.lemmas.Int.{ints}
use Rattle.std.proofs.lemmas.Bool.Decides.{nat_tests}
use Rattle.fd_bytes.specs.Numbers.{signed, sign_and_magnitude, is_missing}
use Rattle.fd_templates.specs.Octets.{FitsSigned, FitsOrMissing, raw_or_ones, signed_raw_or_ones}

pub one_again : (n : ℕ) → n < 2 ^ 8 → n % 256 * 1 + 0 ≡ n
one_again n lt = omega arith

pub two_again : (n : ℕ) → n < 2 ^ 16 → n / 256 % 256 * 256 + (n % 256 * 1 + 0) ≡ n
two_again n lt = omega arith

pub four_again : (n : ℕ) → n < 2 ^ 32 → n / 16777216 % 256 * 16777216 + (n / 65536 % 256 * 65536 + (n / 256 % 256 * 256 + (n % 256 * 1 + 0))) ≡ n
four_again n lt = omega arith

-- ---- signs and magnitudes

pub signed_again : (n : ℕ) (z : ℤ) → FitsSigned n z → signed (8 * n) (sign_and_magnitude (8 * n) z) ≡ z
signed_again n (pos m) lt = ap (λ b. cond b (pos m) (pos 0 -ℤ pos (m - 2 ^ (8 * n - 1)))) (lt-ltb m (2 ^ (8 * n - 1)) lt)
signed_again n (negsuc m) lt =
    ap (λ b. cond b (pos (2 ^ (8 * n - 1) + (m + 1))) (pos 0 -ℤ pos (2 ^ (8 * n - 1) + (m + 1) - 2 ^ (8 * n - 1)))) (le-ltb (2 ^ (8 * n - 1) + (m + 1)) (2 ^ (8 * n - 1)) (omega arith))
    ∙ ap (λ k. pos 0 -ℤ pos k) (let e : 2 ^ (8 * n - 1) + (m + 1) - 2 ^ (8 * n - 1) ≡ suc m = omega arith in e)
    ∙ (let e : pos 0 -ℤ pos (suc m) ≡ negsuc m = omega (arith, ints) in e)

pub signed_fits : (n : ℕ) (z : ℤ) → 2 ^ (8 * n) ≡ 2 * 2 ^ (8 * n - 1) → FitsSigned n z → sign_and_magnitude (8 * n) z < 2 ^ (8 * n)
signed_fits n (pos m) two lt = omega (arith, lt)
signed_fits n (negsuc m) two lt = omega (arith, lt)

-- ---- numbers that may be missing

pub missing_fits : (n : ℕ) (o : Option ℤ) → 2 ^ (8 * n) ≡ 2 * 2 ^ (8 * n - 1) → 0 < 2 ^ (8 * n) → IfSome o (FitsOrMissing n) → signed_raw_or_ones n o < 2 ^ (8 * n)
missing_fits n None two some fits = omega arith
missing_fits n (Some z) two some fits = signed_fits n z two fits.fits

pub missing_again : (n : ℕ) (o : Option ℤ) → IfSome o (FitsOrMissing n) → cond (is_missing (8 * n) (signed_raw_or_ones n o)) None (Some (signed (8 * n) (signed_raw_or_ones n o))) ≡ o
missing_again n None fits = let e : is_missing (8 * n) (2 ^ (8 * n) - 1) ≡ true = grind (arith, nat_tests) in ap (λ b. cond b None (Some (signed (8 * n) (2 ^ (8 * n) - 1)))) e
missing_again n (Some z) fits =
    let there = fits.there in
    let e : is_missing (8 * n) (sign_and_magnitude (8 * n) z) ≡ false = grind (arith, nat_tests) in
    ap (λ b. cond b None (Some (signed (8 * n) (sign_and_magnitude (8 * n) z)))) e ∙ ap Some (signed_again n z fits.fits)

pub number_missing_fits : (n : ℕ) (o : Option ℕ) → 0 < 2 ^ (8 * n) → IfSome o (λ x. x < 2 ^ (8 * n) - 1) → raw_or_ones n o < 2 ^ (8 * n)
number_missing_fits n None some fits = omega arith
number_missing_fits n (Some x) some fits = omega (arith, fits)

pub number_missing_again : (n : ℕ) (o : Option ℕ) → IfSome o (λ x. x < 2 ^ (8 * n) - 1) → cond (is_missing (8 * n) (raw_or_ones n o)) None (Some (raw_or_ones n o)) ≡ o
number_missing_again n None fits = let e : is_missing (8 * n) (2 ^ (8 * n) - 1) ≡ true = grind (arith, nat_tests) in ap (λ b. cond b None (Some (2 ^ (8 * n) - 1))) e
number_missing_again n (Some x) fits =
    let e : is_missing (8 * n) x ≡ false = grind (arith, nat_tests) in
    ap (λ b. cond b None (Some x)) e

-- ---- What is read fits

-- a number from half on is the negation of what it has above half
negated : (d : ℕ) → (pos 0 -ℤ pos d ≡ pos 0) × (d ≡ 0) ⊎ ((m : ℕ) × (pos 0 -ℤ pos d ≡ negsuc m) × (d ≡ suc m))
negated zero = inl (refl, refl)
negated (suc m) = inr (m, (let e : pos 0 -ℤ pos (suc m) ≡ negsuc m = omega (arith, ints) in e), refl)

read_low : (b raw : ℕ) → raw < 2 ^ (b - 1) → signed b raw ≡ pos raw
read_low b raw low = ap (λ t. cond t (pos raw) (pos 0 -ℤ pos (raw - 2 ^ (b - 1)))) (lt-ltb raw (2 ^ (b - 1)) low)

read_high : (b raw : ℕ) → 2 ^ (b - 1) ≤ raw → signed b raw ≡ pos 0 -ℤ pos (raw - 2 ^ (b - 1))
read_high b raw high = ap (λ t. cond t (pos raw) (pos 0 -ℤ pos (raw - 2 ^ (b - 1)))) (le-ltb raw (2 ^ (b - 1)) high)

-- a magnitude has one digit less
pub signed_small : (b raw : ℕ) → 2 ^ b ≡ 2 * 2 ^ (b - 1) → raw < 2 ^ b → unsigned_abs (signed b raw) < 2 ^ (b - 1)
signed_small b raw two lt =
    elim (cases_lt raw (2 ^ (b - 1))) [
      | inl low ↦ let P : ℤ → Type 0 = λ (z : ℤ). unsigned_abs z < 2 ^ (b - 1) in subst P (sym (read_low b raw low)) low
      | inr high ↦
          let P : ℤ → Type 0 = λ (z : ℤ). unsigned_abs z < 2 ^ (b - 1) in
          elim (negated (raw - 2 ^ (b - 1))) [
            | inl none ↦ subst P (sym (read_high b raw high ∙ none.0)) (omega arith)
            | inr some ↦ subst P (sym (read_high b raw high ∙ some.1)) (let less : suc some.0 < 2 ^ (b - 1) = omega (arith, some.2) in less)
          ]
    ]

pub signed_there : (b raw : ℕ) → 2 ^ b ≡ 2 * 2 ^ (b - 1) → raw < 2 ^ b → raw ≢ 2 ^ b - 1 → sign_and_magnitude b (signed b raw) ≢ 2 ^ b - 1
signed_there b raw two lt there =
    let P : ℤ → Type 0 = λ (z : ℤ). sign_and_magnitude b z ≢ 2 ^ b - 1 in
    elim (cases_lt raw (2 ^ (b - 1))) [
      | inl low ↦ subst P (sym (read_low b raw low)) there
      | inr high ↦
          elim (negated (raw - 2 ^ (b - 1))) [
            | inl none ↦ subst P (sym (read_high b raw high ∙ none.0)) (λ e. absurd (omega arith))
            | inr some ↦ subst P (sym (read_high b raw high ∙ some.1)) (λ e. there (omega (arith, some.2, e)))
          ]
    ]

pub halves : (b : ℕ) → (b ≡ 8) ⊎ (b ≡ 16) ⊎ (b ≡ 32) → 2 ^ b ≡ 2 * 2 ^ (b - 1)
halves b w = let P : ℕ → Type 0 = λ (k : ℕ). 2 ^ k ≡ 2 * 2 ^ (k - 1) in elim w [ inl e ↦ subst P (sym e) refl | inr v ↦ elim v [ inl e ↦ subst P (sym e) refl | inr e ↦ subst P (sym e) refl ] ]
