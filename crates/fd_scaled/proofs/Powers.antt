use Rattle.std.proofs.Common.{◌≡◌, ℕ, suc, ◌+◌, ◌-◌, ◌*◌, ◌/◌, ◌%◌, ◌^◌, ◌<◌, ◌≤◌, [], ◌∷◌, ℤ, pos, negsuc, ◌+ℤ◌, refl, sym, ap, ◌∙◌, arith}
use Rattle.std.proofs.Math.Nat.{pow-suc, pow-zero, pow-le-pow_right, mul-le-mul_left, one-le-pow}
use Rattle.fd_scaled.specs.Decimal.{above, below, last_digits, denominator}
use Rattle.fd_scaled.specs.declared.Scaled.{Scaled}

-- a higher power is no smaller
pub power_grows : (x b i n : ℕ) → 2 ≤ b → i ≤ n → x * b ^ i ≤ x * b ^ n
power_grows x b i n h le = let positive : 0 < b = omega arith in mul-le-mul_left x (pow-le-pow_right positive le)

pub power_starts : (x b n : ℕ) → 2 ≤ b → x ≤ x * b ^ n
power_starts x b n h = omega (arith, power_grows x b 0 n h (omega arith), ap (λ p. x * p) (pow-zero b))

pub power_next : (x b i : ℕ) → x * b ^ (i + 1) ≡ x * b ^ i * b
power_next x b i = ap (λ k. x * b ^ k) (let e : i + 1 ≡ suc i = omega arith in e) ∙ ap (λ p. x * p) (pow-suc b i) ∙ omega arith

-- one more factor passes the limit, so all of them do
pub past_limit : (x b i n p limit : ℕ) → 2 ≤ b → i < n → p ≡ x * b ^ i → limit ≤ p * b → limit ≤ x * b ^ n
past_limit x b i n p limit h lt e le =
    let next : x * b ^ (i + 1) ≡ p * b = power_next x b i ∙ ap (λ q. q * b) (sym e) in
    omega (arith, next, power_grows x b (i + 1) n h (omega arith))

-- no factor is 0
pub above_positive : (b : ℕ) (e : ℤ) → 2 ≤ b → 1 ≤ above b e
above_positive b (pos n) h = one-le-pow n b (omega arith)
above_positive b (negsuc n) h = omega arith

pub below_positive : (b : ℕ) (e : ℤ) → 2 ≤ b → 1 ≤ below b e
below_positive b (pos n) h = omega arith
below_positive b (negsuc n) h = one-le-pow (suc n) b (omega arith)

pub no_less : (a b : ℕ) → 1 ≤ b → a ≤ a * b
no_less a b h = omega (arith, mul-le-mul_left a h)

pub last_next : (d i r : ℕ) → i < d → last_digits (d - i) r ≡ (48 + r / 10 ^ (d - 1 - i) % 10) ∷ last_digits (d - (i + 1)) r
unfolding last_digits
last_next d i r lt =
    let k : d - i ≡ suc (d - (i + 1)) = omega arith in
    ap (λ n. last_digits n r) k ∙ ap (λ n. (48 + r / 10 ^ n % 10) ∷ last_digits (d - (i + 1)) r) (omega arith)

pub last_none : (n r : ℕ) → n ≡ 0 → last_digits n r ≡ []
unfolding last_digits
last_none n r e = rw e refl

pub denominator_positive : (s : Scaled) (d : ℕ) → 0 < denominator s d
denominator_positive s d =
    let two = below_positive 2 s.two (omega arith) in
    let ten = below_positive 10 (s.ten +ℤ pos d) (omega arith) in
    omega (arith, two, no_less (below 2 s.two) (below 10 (s.ten +ℤ pos d)) ten)
