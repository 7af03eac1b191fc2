-- The exact text of a number n * 2^two * 10^ten.
use Rattle.std.specs.Prelude.{ℕ, ℤ, pos, zero, List, [], ◌++◌, codes}
use Rattle.std.specs.Fmt.{signed_decimal}
use Rattle.fd_scaled.specs.declared.Scaled.{Scaled}

-- the base and its exponent, unless that is 0
abbrev pub power_text : List ℕ → ℤ → List ℕ
power_text base (pos zero) = []
power_text base e = base ++ signed_decimal e

abbrev pub exact_text : Scaled → List ℕ
exact_text s = signed_decimal s.n ++ power_text (codes "*2^") s.two ++ power_text (codes "*10^") s.ten
