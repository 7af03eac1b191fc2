-- Ranges of values: from an end, by steps, up to another end.
use Rattle.std.specs.Prelude.{ℕ, zero, suc, ◌+◌, ◌/◌, ℤ, pos, neg_ℤ, ◌+ℤ◌, ◌-ℤ◌, unsigned_abs, Bool, true, false, ◌&&◌, List, [], ◌∷◌, length, codes, nat_lt, nat_le, ◌==◌, if◌then◌else◌, Option, Some, None, option_map}
use Rattle.std.specs.Int.{is_negative}
use Rattle.std.specs.Fmt.{signed_decimal}
use Rattle.std.specs.Str.{bytes_eq}
use Rattle.std.specs.Str.Parse.{digits_value}
use Rattle.jiff_core.specs.Calendar.{days_from_civil}
use Rattle.fd_spelling.specs.declared.meaning.Meaning.{Meaning}
use Rattle.fd_spelling.specs.declared.meaning.Meaning.TheVariants as meanings
use Rattle.fd_spelling.specs.declared.meaning.Meaning.TheVariants.{Centre, Date, Time, ProcessedType, Levelist, Step}
use Rattle.fd_spelling.specs.Names.{meaning_of}
use Rattle.fd_spelling.specs.Numerals.{is_numeral, number_up_to, ◌>>=◌}
use Rattle.fd_spelling.specs.Civil.{month_days, is_date, date_text, time_text}
use Rattle.fd_spelling.specs.Texts.{spelled}

-- a day of the Gregorian calendar
pub record Day : Type 0 where
  pub year : ℕ
  pub month : ℕ
  pub day : ℕ

abbrev pub next_day : Day → Day
next_day d =
    if nat_lt d.day (month_days d.year d.month) then record { year = d.year; month = d.month; day = d.day + 1 }
    else if nat_lt d.month 12 then record { year = d.year; month = d.month + 1; day = 1 }
    else record { year = d.year + 1; month = 1; day = 1 }

-- so many days later
unfoldable pub later : ℕ → Day → Day
later zero d = d
later (suc n) d = next_day (later n d)

-- an end of a range: a whole number, a whole hour or a day
pub data End : Type 0 where
  Number : (number : ℤ) → End
  Hour : (hour : ℕ) → End
  OnDay : (day : Day) → End

-- ---- the ends that values are

-- 1 to 15 decimal digits
unfoldable pub whole : List ℕ → Option ℕ
whole text = if is_numeral text && nat_le (length text) 15 then Some (digits_value 10 text) else None

-- the same with `-` before it or without
unfoldable pub signed_whole : List ℕ → Option ℤ
signed_whole [] = None
signed_whole (b ∷ bs) = if b == 45 then option_map (λ n. neg_ℤ (pos n)) (whole bs) else option_map pos (whole (b ∷ bs))

-- `HHMM`, where the minutes are 0
unfoldable pub hour_of : List ℕ → Option ℕ
hour_of (h ∷ i ∷ m ∷ n ∷ []) = if bytes_eq (m ∷ n ∷ []) (codes "00") then number_up_to 23 (h ∷ i ∷ []) else None
hour_of _ = None

abbrev pub day_if : Bool → ℕ → ℕ → ℕ → Option Day
day_if is y m d = if is then Some (record { year = y; month = m; day = d }) else None

-- `YYYYMMDD`
unfoldable pub day_of : List ℕ → Option Day
day_of (a ∷ b ∷ c ∷ d ∷ m ∷ n ∷ e ∷ f ∷ []) =
    number_up_to 9999 (a ∷ b ∷ c ∷ d ∷ []) >>= λ year. number_up_to 12 (m ∷ n ∷ []) >>= λ month. number_up_to 31 (e ∷ f ∷ []) >>= λ day.
    day_if (is_date year month day) year month day
day_of _ = None

-- the end that a value in its one spelling is
unfoldable pub end_in : Meaning → List ℕ → Option End
end_in Centre text = option_map (λ n. Number (pos n)) (whole text)
end_in ProcessedType text = option_map (λ n. Number (pos n)) (whole text)
end_in Levelist text = option_map (λ n. Number (pos n)) (whole text)
end_in meanings.Number text = option_map (λ n. Number (pos n)) (whole text)
end_in Step text = option_map Number (signed_whole text)
end_in Time text = option_map Hour (hour_of text)
end_in Date text = option_map OnDay (day_of text)
end_in _ text = None

-- the end that a text is, as a value of the name
unfoldable pub end_of : List ℕ → List ℕ → Option End
end_of name text = spelled name text >>= λ value. end_in (meaning_of name) value

-- the number by which ends are compared; for a day, the days since 1 January 1970
unfoldable pub place : End → ℤ
place (Number z) = z
place (Hour h) = pos h
place (OnDay d) = days_from_civil (pos d.year) d.month d.day

-- how far an end is behind another, unless it is before it
abbrev pub distance_if : ℤ → Option ℕ
distance_if z = if is_negative z then None else Some (unsigned_abs z)

abbrev pub same_kind : End → End → Bool
same_kind (Number x) (Number y) = true
same_kind (Hour h) (Hour i) = true
same_kind (OnDay d) (OnDay e) = true
same_kind first last = false

unfoldable pub distance : End → End → Option ℕ
distance first last = if same_kind first last then distance_if (place last -ℤ place first) else None

-- ---- the values of a range

-- the one spelling of the value so far behind an end
unfoldable pub text_behind : End → ℕ → List ℕ
text_behind (Number z) far = signed_decimal (z +ℤ pos far)
text_behind (Hour h) far = time_text (h + far) 0 0
text_behind (OnDay d) far = let day = later far d in date_text day.year day.month day.day

-- so many values, the first so far behind an end, and each of the others one step behind the one before it
unfoldable pub values_from : End → ℕ → ℕ → ℕ → List (List ℕ)
values_from first step far zero = []
values_from first step far (suc n) = text_behind first far ∷ values_from first step (far + step) n

-- a step: 1 to 9 decimal digits, and not 0
abbrev pub above_zero : Option ℕ → Option ℕ
above_zero None = None
above_zero (Some n) = if n == 0 then None else Some n

unfoldable pub step_of : List ℕ → Option ℕ
step_of text = if nat_le (length text) 9 then above_zero (number_up_to 999_999_999 text) else None

-- the values from one end on, by steps, up to the other
unfoldable pub between : List ℕ → List ℕ → List ℕ → List ℕ → Option (List (List ℕ))
between name a b c =
    end_of name a >>= λ first. end_of name b >>= λ last. step_of c >>= λ step. distance first last >>= λ far.
    Some (values_from first step 0 (far / step + 1))

abbrev pub is_to : List ℕ → Bool
is_to text = bytes_eq text (codes "to")

abbrev pub is_by : List ℕ → Bool
is_by text = bytes_eq text (codes "by")

-- the values of a range `a/to/b` or `a/to/b/by/c` of a name
unfoldable pub range_of : List ℕ → List (List ℕ) → Option (List (List ℕ))
range_of name (a ∷ t ∷ b ∷ []) = if is_to t then between name a b (codes "1") else None
range_of name (a ∷ t ∷ b ∷ u ∷ c ∷ []) = if is_to t && is_by u then between name a b c else None
range_of name _ = None
