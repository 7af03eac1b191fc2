-- The value of a point in simple packing: value * 10^D = R + X * 2^E (FM 92 GRIB, regulation 92.9.4).
use Rattle.std.specs.Prelude.{◌≡◌, ℕ, ℤ, zero, suc, pos, ◌+◌, ◌-◌, ◌*◌, ◌^◌, ◌<◌, ◌≤◌, ◌+ℤ◌, ◌-ℤ◌, neg_ℤ, max, Bool, true, List, [], ◌∷◌, length, take, count_by, slice_index, ◌==◌, if◌then◌else◌, unsigned_abs, Option, Some, None}
use Rattle.std.specs.Int.{int_min}
use Rattle.std.specs.Int.Digits.{digits_of}
use Rattle.fd_scaled.specs.declared.Scaled.{Scaled}
use Rattle.fd_packing.specs.declared.ieee.Reference.{Reference}
use Rattle.fd_packing.specs.Bits.{number_at}
use Rattle.fd_packing.specs.Packed.{Packed}

-- the common power of two: the lower one of both addends that are there
abbrev pub common : Reference → ℤ → ℕ → ℤ
common r e w = if w == 0 then r.k else (if r.m == 0 then e else int_min r.k e)

abbrev pub signed : Bool → ℕ → ℤ
signed negative n = if negative then neg_ℤ (pos n) else pos n

-- n * 2^k in units of 2^q, where q is at most k or n is 0
abbrev pub lifted : ℕ → ℤ → ℤ → ℕ
lifted n k q = n * 2 ^ unsigned_abs (k -ℤ q)

-- the value with the packed number x of w bits, exactly: (R + x * 2^E) * 10^(-D)
unfoldable pub scaled_value : Reference → ℤ → ℤ → ℕ → ℕ → Scaled
scaled_value r e d w x =
    let q = common r e w in
    record { n = signed r.negative (lifted r.m r.k q) +ℤ pos (lifted x e q); two = q; ten = neg_ℤ d }

-- ---- Places

-- how many bits are 1
abbrev pub ones : List ℕ → ℕ
ones bits = count_by (λ b. b == 1) bits

-- whether point i has a value: without a bit map each has
abbrev pub has_value : Option (List ℕ) → ℕ → Bool
has_value None i = true
has_value (Some bits) i = slice_index bits i == 1

-- the place of the packed number of point i: how many points before it have a value
abbrev pub place_of : Option (List ℕ) → ℕ → ℕ
place_of None i = i
place_of (Some bits) i = ones (take i bits)

-- the packed number at a place
abbrev pub packed_number : Packed → ℕ → ℕ
packed_number f j = number_at f.octets (j * f.width) f.width

unfoldable pub value_at : Packed → ℕ → Scaled
value_at f j = scaled_value f.reference f.binary_scale f.decimal_scale f.width (packed_number f j)

unfoldable pub value_of : Packed → ℕ → Option Scaled
value_of f i = if has_value f.map i then Some (value_at f (place_of f.map i)) else None

-- the values of n points from point i on
unfoldable pub values_from : Packed → ℕ → ℕ → List (Option Scaled)
values_from f i zero = []
values_from f i (suc n) = value_of f i ∷ values_from f (i + 1) n

abbrev pub values_of : Packed → List (Option Scaled)
values_of f = values_from f 0 f.points

-- ---- Width

-- how many binary digits a number has
abbrev pub digits : ℕ → ℕ
digits n = length (digits_of 2 n)

-- the greatest magnitude of each addend
abbrev pub first_addend : Reference → ℤ → ℕ → ℕ
first_addend r e w = lifted r.m r.k (common r e w)

abbrev pub second_addend : Reference → ℤ → ℕ → ℕ
second_addend r e w = lifted (2 ^ w - 1) e (common r e w)

-- the digits of the larger addend, exactly where the sum is 2^127 or more
abbrev pub NeedIs : ℕ → ℕ → Option ℕ → Type 0
NeedIs a b None = a + b < 2 ^ 127
NeedIs a b (Some n) = (2 ^ 127 ≤ a + b) × (n ≡ max (digits a) (digits b))

-- What holds of numbers whose sums have at most 127 digits.
pub record IsNarrow (r : Reference) (e : ℤ) (w : ℕ) : Type 0 where
  pub m : r.m < 2 ^ 24
  pub k : unsigned_abs r.k < 2 ^ 8
  pub e_fits : unsigned_abs e < 2 ^ 15
  pub width : w ≤ 64
  pub sum : first_addend r e w + second_addend r e w < 2 ^ 127
