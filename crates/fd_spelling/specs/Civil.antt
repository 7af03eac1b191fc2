-- Civil dates and times of day, by the Gregorian calendar.
use Rattle.std.specs.Prelude.{ℕ, ◌+◌, ◌/◌, ◌%◌, Bool, not, List, [], ◌∷◌, ◌++◌, Option, Some, None, ◌&&◌, ◌||◌, ◌==◌, nat_le, if◌then◌else◌}
use Rattle.fd_spelling.specs.Numerals.{number_up_to, ◌>>=◌}

-- every fourth year, but of the centuries only every fourth
abbrev pub is_leap : ℕ → Bool
is_leap y = (y % 4 == 0) && (not (y % 100 == 0) || (y % 400 == 0))

-- thirty days have September, April, June and November
abbrev pub month_days : ℕ → ℕ → ℕ
month_days y m =
    if m == 2 then (if is_leap y then 29 else 28)
    else (if (m == 4) || (m == 6) || (m == 9) || (m == 11) then 30 else 31)

-- the calendar has this day, in a year up to 9999
abbrev pub is_date : ℕ → ℕ → ℕ → Bool
is_date y m d = nat_le y 9999 && (nat_le 1 m && (nat_le m 12 && (nat_le 1 d && nat_le d (month_days y m))))

-- a day has this time
abbrev pub is_time : ℕ → ℕ → ℕ → Bool
is_time h m s = nat_le h 23 && (nat_le m 59 && nat_le s 59)

-- the last two decimal digits of a number
abbrev pub two_digits : ℕ → List ℕ
two_digits n = (48 + n / 10 % 10) ∷ (48 + n % 10) ∷ []

-- `YYYYMMDD`
unfoldable pub date_text : ℕ → ℕ → ℕ → List ℕ
date_text y m d = two_digits (y / 100) ++ two_digits y ++ two_digits m ++ two_digits d

-- `HHMM`, and `SS` behind it where the seconds aren't 0
unfoldable pub time_text : ℕ → ℕ → ℕ → List ℕ
time_text h m s = two_digits h ++ two_digits m ++ (if s == 0 then [] else two_digits s)

-- the date whose year, month and day these digits write
unfoldable pub date_in : List ℕ → List ℕ → List ℕ → Option (List ℕ)
date_in year month day = do
  y ← number_up_to 9999 year
  m ← number_up_to 12 month
  d ← number_up_to 31 day
  (if is_date y m d then Some (date_text y m d) else None)

-- `YYYYMMDD` or `YYYY-MM-DD`
unfoldable pub date_spelling : List ℕ → Option (List ℕ)
date_spelling (a ∷ b ∷ c ∷ d ∷ m ∷ n ∷ e ∷ f ∷ []) = date_in (a ∷ b ∷ c ∷ d ∷ []) (m ∷ n ∷ []) (e ∷ f ∷ [])
date_spelling (a ∷ b ∷ c ∷ d ∷ x ∷ m ∷ n ∷ y ∷ e ∷ f ∷ []) =
    if (x == 45) && (y == 45) then date_in (a ∷ b ∷ c ∷ d ∷ []) (m ∷ n ∷ []) (e ∷ f ∷ []) else None
date_spelling _ = None

-- the time whose hours, minutes and seconds these digits write
unfoldable pub time_in : List ℕ → List ℕ → List ℕ → Option (List ℕ)
time_in hours minutes seconds = do
  h ← number_up_to 23 hours
  m ← number_up_to 59 minutes
  s ← number_up_to 59 seconds
  Some (time_text h m s)

-- the digit 0
abbrev pub zero_digit : List ℕ
zero_digit = 48 ∷ []

-- `H`, `HH`, `HHMM`, `HH:MM`, `HHMMSS` or `HH:MM:SS`
unfoldable pub time_spelling : List ℕ → Option (List ℕ)
time_spelling (h ∷ []) = time_in (h ∷ []) zero_digit zero_digit
time_spelling (h ∷ i ∷ []) = time_in (h ∷ i ∷ []) zero_digit zero_digit
time_spelling (h ∷ i ∷ m ∷ n ∷ []) = time_in (h ∷ i ∷ []) (m ∷ n ∷ []) zero_digit
time_spelling (h ∷ i ∷ c ∷ m ∷ n ∷ []) = if c == 58 then time_in (h ∷ i ∷ []) (m ∷ n ∷ []) zero_digit else None
time_spelling (h ∷ i ∷ m ∷ n ∷ s ∷ t ∷ []) = time_in (h ∷ i ∷ []) (m ∷ n ∷ []) (s ∷ t ∷ [])
time_spelling (h ∷ i ∷ c ∷ m ∷ n ∷ d ∷ s ∷ t ∷ []) =
    if (c == 58) && (d == 58) then time_in (h ∷ i ∷ []) (m ∷ n ∷ []) (s ∷ t ∷ []) else None
time_spelling _ = None
