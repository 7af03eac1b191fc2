-- Levels: the types and values of the two fixed surfaces of a field (code table 4.5 of FM 92 GRIB).
use Rattle.std.specs.Prelude.{◌≡◌, ◌<◌, ◌≤◌, ℕ, ℤ, Bool, true, false, List, [], ◌∷◌, ◌++◌, length, take, drop, codes, replicate, unsigned_abs, Option, Some, None, not, ◌&&◌, ◌==◌, if◌then◌else◌}
use Rattle.std.specs.List.{list_all}
use Rattle.std.specs.Int.{is_negative}
use Rattle.std.specs.Fmt.{decimal}
use Rattle.fd_spelling.specs.Names.{is_value_byte}
use Rattle.fd_spelling.specs.Numerals.{number_up_to, cut, is_numeral, ◌>>=◌}

-- the type of the first surface, and that of the second unless it is missing
unfoldable pub levtype_text : ℕ → ℕ → List ℕ
levtype_text first second = if second == 255 then decimal first else decimal first ++ codes "-" ++ decimal second

-- the types that two texts write
unfoldable pub types_in : List ℕ → List ℕ → Option (List ℕ)
types_in first second = number_up_to 255 first >>= λ t. number_up_to 255 second >>= λ u. Some (levtype_text t u)

-- two numbers with `-` between them, or the first alone, where the second is missing
abbrev pub both_types : Option (List ℕ × List ℕ) → List ℕ → Option (List ℕ)
both_types None text = types_in text (codes "255")
both_types (Some parts) text = types_in parts.0 parts.1

-- `t` or `t-u`
unfoldable pub levtype_spelling : List ℕ → Option (List ℕ)
levtype_spelling text = both_types (cut 45 text) text

-- the digits without the zeros before them
abbrev pub without_first_zeros : List ℕ → List ℕ
without_first_zeros [] = []
without_first_zeros (b ∷ bs) = if b == 48 then without_first_zeros bs else b ∷ bs

-- a digit before others, unless it is a zero at the end
abbrev pub before_others : ℕ → List ℕ → List ℕ
before_others b [] = if b == 48 then [] else b ∷ []
before_others b (c ∷ cs) = b ∷ c ∷ cs

-- the digits without the zeros behind them
abbrev pub without_last_zeros : List ℕ → List ℕ
without_last_zeros [] = []
without_last_zeros (b ∷ bs) = before_others b (without_last_zeros bs)

-- `0` for no digits
abbrev pub or_zero : List ℕ → List ℕ
or_zero [] = 48 ∷ []
or_zero (b ∷ bs) = b ∷ bs

-- a point before digits, if there are any
abbrev pub with_point : List ℕ → List ℕ
with_point [] = []
with_point (b ∷ bs) = 46 ∷ b ∷ bs

-- only zeros
abbrev pub is_zero : List ℕ → Bool
is_zero digits = list_all (λ b. b == 48) digits

-- the decimal with these digits before its point and these behind it: no needless zeros, no point without digits, no `-0`
unfoldable pub level_text : Bool → List ℕ → List ℕ → List ℕ
level_text negative whole fraction =
    (if negative && not (is_zero whole && is_zero fraction) then 45 ∷ [] else [])
    ++ or_zero (without_first_zeros whole) ++ with_point (without_last_zeros fraction)

-- a text of 1 to so many bytes of values
pub record IsDecimal (most : ℕ) (text : List ℕ) : Type 0 where
  pub bytes : list_all is_value_byte text ≡ true
  pub some : 0 < length text
  pub few : length text ≤ most

-- digits, and a point with digits, which may be absent
abbrev pub decimal_in : Bool → Option (List ℕ × List ℕ) → List ℕ → Option (List ℕ)
decimal_in negative None text = if is_numeral text then Some (level_text negative text []) else None
decimal_in negative (Some parts) text =
    if is_numeral parts.0 && is_numeral parts.1 then Some (level_text negative parts.0 parts.1) else None

unfoldable pub unsigned_level : Bool → List ℕ → Option (List ℕ)
unsigned_level negative text = decimal_in negative (cut 46 text) text

-- a decimal, with `-` before it or without
unfoldable pub level_spelling : List ℕ → Option (List ℕ)
level_spelling [] = None
level_spelling (b ∷ bs) = if b == 45 then unsigned_level true bs else unsigned_level false (b ∷ bs)

-- the values of the first and the second surface, each of which may be missing
abbrev pub levels_text : Option (List ℕ) → Option (List ℕ) → Option (List ℕ)
levels_text None None = None
levels_text (Some v) None = Some v
levels_text None (Some w) = Some (codes "_" ++ w)
levels_text (Some v) (Some w) = Some (v ++ codes "_" ++ w)

-- the two parts at a `_`, of which the first may be empty
abbrev pub both_levels : Option (List ℕ × List ℕ) → List ℕ → Option (List ℕ)
both_levels None text = level_spelling text
both_levels (Some ([], second)) text = level_spelling second >>= λ w. levels_text None (Some w)
both_levels (Some (b ∷ bs, second)) text = level_spelling (b ∷ bs) >>= λ v. level_spelling second >>= λ w. levels_text (Some v) (Some w)

-- `v`, `v_w` or `_w`
unfoldable pub levelist_spelling : List ℕ → Option (List ℕ)
levelist_spelling text = both_levels (cut 95 text) text

-- these digits with the point moved by factor places to the left: those before it, at least one, and those behind it
abbrev pub point_moved : List ℕ → ℤ → List ℕ × List ℕ
point_moved digits factor =
    let zeros = replicate (unsigned_abs factor) 48 in
    if is_negative factor
    then (digits ++ zeros, [])
    else (take (length digits) (zeros ++ digits), drop (length digits) (zeros ++ digits))

-- value × 10 ^ -factor
unfoldable pub scaled_text : ℤ → ℤ → List ℕ
scaled_text factor value =
    let digits = point_moved (decimal (unsigned_abs value)) factor in
    level_text (is_negative value) digits.0 digits.1
