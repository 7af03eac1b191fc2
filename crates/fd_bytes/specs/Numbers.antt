-- The numbers of a GRIB section: big-endian, signed ones by sign and magnitude.
use Rattle.std.specs.Prelude.{ℕ, ◌+◌, ◌-◌, ◌^◌, ℤ, pos, negsuc, Bool, nat_lt, List, if◌then◌else◌, ◌-ℤ◌, ◌==◌}
use Rattle.byteorder.specs.Endian.{big_from}

-- the number in octets first to last of a section, which are counted from 1
abbrev pub octets : ℕ → ℕ → List ℕ → ℕ
octets first last section = big_from (first - 1) (last + 1 - first) section

-- the digits of raw are a sign and a magnitude of bits - 1 digits
abbrev pub signed : ℕ → ℕ → ℤ
signed bits raw = if nat_lt raw (2 ^ (bits - 1)) then pos raw else pos 0 -ℤ pos (raw - 2 ^ (bits - 1))

-- the sign and magnitude of a number, in that many binary digits
abbrev pub sign_and_magnitude : ℕ → ℤ → ℕ
sign_and_magnitude bits (pos n) = n
sign_and_magnitude bits (negsuc n) = 2 ^ (bits - 1) + (n + 1)

-- all digits are 1
abbrev pub is_missing : ℕ → ℕ → Bool
is_missing bits raw = raw == 2 ^ bits - 1
