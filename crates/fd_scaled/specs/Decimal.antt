-- The decimal text of an exact number, rounded half to even.
use Rattle.std.specs.Prelude.{◌≡◌, ◌≤◌, ℕ, ℤ, pos, zero, suc, ◌+◌, ◌*◌, ◌/◌, ◌%◌, ◌^◌, Bool, ◌&&◌, ◌||◌, List, [], ◌∷◌, ◌++◌, length, map, nat_lt, nat_le, ◌==◌, if◌then◌else◌, unsigned_abs, ◌+ℤ◌, ◌⊎◌}
use Rattle.std.specs.Fmt.{decimal}
use Rattle.std.specs.Int.{is_negative}
use Rattle.std.specs.Int.Digits.{number_from_digits, AllBelowBase}
use Rattle.fd_scaled.specs.declared.Scaled.{Scaled}

-- ---- The number times 10^d, as a fraction of two whole numbers

-- the factor that base^e puts above the line, and the one that it puts below it
abbrev pub above : ℕ → ℤ → ℕ
above base (pos n) = base ^ n
above base _ = 1

abbrev pub below : ℕ → ℤ → ℕ
below base (pos n) = 1
below base e = base ^ unsigned_abs e

-- the magnitude of the number times 10^d is numerator s d / denominator s d
abbrev pub numerator : Scaled → ℕ → ℕ
numerator s d = unsigned_abs s.n * above 2 s.two * above 10 (s.ten +ℤ pos d)

abbrev pub denominator : Scaled → ℕ → ℕ
denominator s d = below 2 s.two * below 10 (s.ten +ℤ pos d)

abbrev pub is_too_wide : Scaled → ℕ → Bool
is_too_wide s d = nat_le (2 ^ 127) (numerator s d) || nat_le (2 ^ 126) (denominator s d)

-- ---- What the text says

-- No whole number is nearer to x / y than k, and where another one is as near, k is the even one of them.
pub record IsNearest (x y k : ℕ) : Type 0 where
  pub above : 2 * x ≤ 2 * (k * y) + y
  pub below : 2 * (k * y) ≤ 2 * x + y
  pub tie : (2 * x ≡ 2 * (k * y) + y) ⊎ (2 * (k * y) ≡ 2 * x + y) → k % 2 ≡ 0

-- The text writes k / 10^d with d decimals: the whole part without needless zeros, then the point and all d digits of
-- the rest, unless d is 0.
pub record IsFixedPoint (d k : ℕ) (text : List ℕ) : Type 0 where
  pub whole : ℕ
  pub digits : List ℕ
  pub spelled : text ≡ decimal whole ++ (if d == 0 then [] else 46 ∷ map (λ x. 48 + x) digits)
  pub each : AllBelowBase 10 digits
  pub many : length digits ≡ d
  pub value : whole * 10 ^ d + number_from_digits 10 digits ≡ k

-- a minus, where it is wanted
abbrev pub minus_if : Bool → List ℕ
minus_if b = if b then 45 ∷ [] else []

-- The text writes the number with d decimals, rounded half to even: the nearest number k / 10^d to its magnitude, behind
-- a minus where the number is negative and k isn't 0.
pub record IsRounded (s : Scaled) (d : ℕ) (text : List ℕ) : Type 0 where
  pub k : ℕ
  pub digits : List ℕ
  pub nearest : IsNearest (numerator s d) (denominator s d) k
  pub written : IsFixedPoint d k digits
  pub sign : text ≡ minus_if (is_negative s.n && nat_lt 0 k) ++ digits

-- ---- That text, as a function: there is one

abbrev pub rounded : ℕ → ℕ → ℕ
rounded x y = if nat_lt y (2 * (x % y)) || (2 * (x % y) == y && x / y % 2 == 1) then x / y + 1 else x / y

-- the last d digits of r
unfoldable pub last_digits : ℕ → ℕ → List ℕ
last_digits zero r = []
last_digits (suc d) r = (48 + r / 10 ^ d % 10) ∷ last_digits d r

abbrev pub fixed_point : ℕ → ℕ → List ℕ
fixed_point d r = decimal (r / 10 ^ d) ++ (if d == 0 then [] else 46 ∷ last_digits d r)

abbrev pub rounded_text : Scaled → ℕ → List ℕ
rounded_text s d =
    let r = rounded (numerator s d) (denominator s d) in minus_if (is_negative s.n && nat_lt 0 r) ++ fixed_point d r
