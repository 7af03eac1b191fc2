-- The reference value of a field, an IEEE 754 single: plus or minus f * 2^(-149) where the exponent field is 0, and else
-- (2^23 + f) * 2^(e - 150) with the fraction f and the exponent field e; it is not finite where e is 255.
use Rattle.std.specs.Prelude.{◌≡◌, ◌<◌, ℕ, ℤ, pos, ◌+◌, ◌*◌, ◌/◌, ◌%◌, ◌^◌, ◌+ℤ◌, ◌-ℤ◌, max, Bool, ◌==◌, if◌then◌else◌, Option, Some, None}
use Rattle.std.specs.Int.{w32, trailing_zeros}
use Rattle.fd_packing.specs.declared.ieee.Reference.{Reference}

abbrev pub exponent : ℕ → ℕ
exponent raw = raw / 2 ^ 23 % 2 ^ 8

abbrev pub fraction : ℕ → ℕ
fraction raw = raw % 2 ^ 23

abbrev pub is_below_zero : ℕ → Bool
is_below_zero raw = raw / 2 ^ 31 == 1

-- the magnitude is the significand times 2 ^ power
abbrev pub significand : ℕ → ℕ
significand raw = if exponent raw == 0 then fraction raw else 2 ^ 23 + fraction raw

abbrev pub power : ℕ → ℤ
power raw = pos (max (exponent raw) 1) -ℤ pos 150

-- the magnitude n * 2^k as m * 2^k with m odd, or with m and k 0
abbrev pub reduced : Bool → ℕ → ℤ → Reference
reduced negative n k =
    if n == 0
    then record { negative = negative; m = 0; k = pos 0 }
    else record { negative = negative; m = n / 2 ^ trailing_zeros w32 n; k = k +ℤ pos (trailing_zeros w32 n) }

unfoldable pub reference_of : ℕ → Option Reference
reference_of raw = if exponent raw == 255 then None else Some (reduced (is_below_zero raw) (significand raw) (power raw))

-- n * 2^power is m * 2^k, and m is odd
pub record IsOddPart (n : ℕ) (power : ℤ) (m : ℕ) (k : ℤ) : Type 0 where
  pub zeros : ℕ
  pub exact : m * 2 ^ zeros ≡ n
  pub raised : k ≡ power +ℤ pos zeros
  pub odd : m % 2 ≡ 1

-- r is the number that the octets write, with m odd, or with m and k 0
pub record IsReduced (raw : ℕ) (r : Reference) : Type 0 where
  pub sign : r.negative ≡ is_below_zero raw
  pub zero : significand raw ≡ 0 → (r.m ≡ 0) × (r.k ≡ pos 0)
  pub some : 0 < significand raw → IsOddPart (significand raw) (power raw) r.m r.k
