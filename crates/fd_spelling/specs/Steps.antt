-- Forecast times with their unit: code table 4.4 of FM 92 GRIB, and the texts of a step.
use Rattle.std.specs.Prelude.{ℕ, ◌*◌, ◌/◌, ◌%◌, Bool, true, false, List, [], ◌∷◌, ◌++◌, length, take, drop, codes, Option, Some, None, option_map, is_some, if◌then◌else◌, nat_lt, nat_le, ◌==◌, ◌&&◌}
use Rattle.std.specs.Fmt.{decimal}
use Rattle.std.specs.Str.Parse.{digits_value}
use Rattle.fd_spelling.specs.Numerals.{number_up_to, digit_count}

-- the seconds of a unit of time, where it always has as many
abbrev pub unit_seconds : ℕ → Option ℕ
unit_seconds unit =
    if unit == 0 then Some 60
    else if unit == 1 then Some 3600
    else if unit == 2 then Some 86400
    else if unit == 10 then Some 10800
    else if unit == 11 then Some 21600
    else if unit == 12 then Some 43200
    else if unit == 13 then Some 1
    else None

-- `-` before a number that isn't 0
abbrev pub sign_text : Bool → ℕ → List ℕ
sign_text negative n = if negative && nat_lt 0 n then 45 ∷ [] else []

-- whole hours, else whole minutes, else seconds
abbrev pub seconds_text : ℕ → List ℕ
seconds_text s =
    if s % 3600 == 0 then decimal (s / 3600)
    else if s % 60 == 0 then decimal (s / 60) ++ codes "m"
    else decimal s ++ codes "s"

-- n of a unit; `u` and its number, where it has no seconds
abbrev pub magnitude_text : ℕ → ℕ → Option ℕ → List ℕ
magnitude_text n unit (Some seconds) = seconds_text (n * seconds)
magnitude_text n unit None = decimal n ++ codes "u" ++ decimal unit

-- the one spelling of a number of units
unfoldable pub step_text : Bool → ℕ → ℕ → List ℕ
step_text negative n unit = sign_text negative n ++ magnitude_text n unit (unit_seconds unit)

-- a unit that has no seconds
abbrev pub without_seconds : Option ℕ → Option ℕ
without_seconds None = None
without_seconds (Some unit) = if is_some (unit_seconds unit) then None else Some unit

-- the unit that stands behind a number: none for hours, `m` for minutes, `s` for seconds, `u` and the number of another one
unfoldable pub unit_of : List ℕ → Option ℕ
unit_of [] = Some 1
unit_of (b ∷ bs) =
    if b == 117 then without_seconds (number_up_to 255 bs)
    else if (b == 109) && (length bs == 0) then Some 0
    else if (b == 115) && (length bs == 0) then Some 13
    else None

-- 1 to 15 digits and a unit, in their one spelling
unfoldable pub unsigned_step : Bool → List ℕ → Option (List ℕ)
unsigned_step negative text =
    let count = digit_count text in
    if nat_le 1 count && nat_le count 15
    then option_map (step_text negative (digits_value 10 (take count text))) (unit_of (drop count text))
    else None

-- a step in its one spelling
unfoldable pub step_spelling : List ℕ → Option (List ℕ)
step_spelling [] = None
step_spelling (b ∷ bs) = if b == 45 then unsigned_step true bs else unsigned_step false (b ∷ bs)
