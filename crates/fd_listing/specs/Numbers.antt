-- Numbers in lines.
use Rattle.std.specs.Prelude.{ℕ, ℤ, pos, List, [], ◌∷◌, ◌++◌, codes, Option, Some, None}
use Rattle.std.specs.Fmt.{signed_decimal}
use Rattle.fd_listing.specs.Lines.{blank}

-- a number, or a minus where it is missing
abbrev pub number_or_minus : Option ℤ → List ℕ
number_or_minus None = codes "-"
number_or_minus (Some n) = signed_decimal n

-- numbers, with a blank before each
abbrev pub numbers_text : List (Option ℤ) → List ℕ
numbers_text [] = []
numbers_text (n ∷ ns) = blank (number_or_minus n) ++ numbers_text ns

-- a number that is never missing
abbrev pub plain : ℕ → Option ℤ
plain n = Some (pos n)

-- the same of a number that may be missing
abbrev pub plain_if : Option ℕ → Option ℤ
plain_if None = None
plain_if (Some n) = plain n
