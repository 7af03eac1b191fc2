-- The numbers in the octets of a section, which count from 1 (FM 92 GRIB, regulations 92.1.4 and 92.1.5).
use Rattle.std.specs.Prelude.{ℕ, ℤ, ◌+◌, ◌-◌, ◌*◌, ◌^◌, List, Option, Some, None, if◌then◌else◌, ◌≢◌, ◌<◌, unsigned_abs}
use Rattle.byteorder.specs.Endian.{big_bytes}
use Rattle.fd_bytes.specs.Numbers.{octets, signed, sign_and_magnitude, is_missing}

-- ---- Read

-- the number in octets first to last
unfoldable pub number : ℕ → ℕ → List ℕ → ℕ
number first last section = octets first last section

-- how many binary digits octets first to last have
abbrev pub bits : ℕ → ℕ → ℕ
bits first last = 8 * (last + 1 - first)

-- the same, as a sign and a magnitude
unfoldable pub signed_number : ℕ → ℕ → List ℕ → ℤ
signed_number first last section = signed (bits first last) (octets first last section)

-- the same, where a number with all bits 1 is missing
unfoldable pub number_or_missing : ℕ → ℕ → List ℕ → Option ℕ
number_or_missing first last section =
    if is_missing (bits first last) (octets first last section) then None else Some (octets first last section)

unfoldable pub signed_or_missing : ℕ → ℕ → List ℕ → Option ℤ
signed_or_missing first last section =
    if is_missing (bits first last) (octets first last section)
    then None
    else Some (signed (bits first last) (octets first last section))

-- ---- Written

-- a number in n octets
unfoldable pub octets_of : ℕ → ℕ → List ℕ
octets_of n x = big_bytes n x

-- its sign and magnitude in n octets
unfoldable pub signed_octets : ℕ → ℤ → List ℕ
signed_octets n z = big_bytes n (sign_and_magnitude (8 * n) z)

-- The same, where a number may be missing: then all bits are 1.
abbrev pub raw_or_ones : ℕ → Option ℕ → ℕ
raw_or_ones n None = 2 ^ (8 * n) - 1
raw_or_ones n (Some x) = x

abbrev pub signed_raw_or_ones : ℕ → Option ℤ → ℕ
signed_raw_or_ones n None = 2 ^ (8 * n) - 1
signed_raw_or_ones n (Some z) = sign_and_magnitude (8 * n) z

unfoldable pub octets_or_ones : ℕ → Option ℕ → List ℕ
octets_or_ones n o = big_bytes n (raw_or_ones n o)

unfoldable pub signed_or_ones : ℕ → Option ℤ → List ℕ
signed_or_ones n o = big_bytes n (signed_raw_or_ones n o)

-- ---- What fits n octets

-- a sign and a magnitude
abbrev pub FitsSigned : ℕ → ℤ → Type 0
FitsSigned n z = unsigned_abs z < 2 ^ (8 * n - 1)

-- and its bits are not all 1
pub record FitsOrMissing (n : ℕ) (z : ℤ) : Type 0 where
  pub fits : unsigned_abs z < 2 ^ (8 * n - 1)
  pub there : sign_and_magnitude (8 * n) z ≢ 2 ^ (8 * n) - 1
