-- The values behind an end, read again.
use Rattle.std.proofs.Common.{◌≡◌, ◌<◌, ◌≤◌, ◌+◌, ◌-◌, ◌/◌, ◌%◌, ◌∙◌, ◌^◌, ℕ, true, List, ◌++◌, ltb, leb, Some, None, refl, ap, arith, ℤ, pos, negsuc, neg_ℤ, ◌+ℤ◌, ◌-ℤ◌, ◌≤ℤ◌, FitsSigned, w64}
use Rattle.std.specs.Prelude.{◌&&◌}
use Rattle.std.specs.List.{list_all}
use Rattle.std.specs.Char.{is_ascii_digit, digit_value}
use Rattle.std.specs.Fmt.{signed_decimal}
use Rattle.std.specs.Str.Parse.{digits_value}
use Rattle.std.proofs.lemmas.Int.{ints}
use Rattle.std.proofs.lemmas.Bool.{and_from, cond-true, cond-false, lt-ltb, le-ltb, le-leb}
use lib.Signed.{mag}
use Rattle.jiff_core.specs.Calendar.{IsCivilDate}
use Rattle.jiff_core.specs.Date.{epoch_day}
use Rattle.jiff_core.proofs.CalendarLemmas.{days_in_month_bounds}
use Rattle.fd_spelling.specs.Numerals.{number_up_to}
use Rattle.fd_spelling.specs.Civil.{is_date, month_days, two_digits, date_text, time_text}
use Rattle.fd_spelling.proofs.Again.{number_is}
use Rattle.fd_request.specs.declared.day.Day as code_day
use Rattle.fd_request.specs.declared.end.End as code_end
use Rattle.fd_request.specs.declared.end.End.TheVariants as ends
use Rattle.fd_request.specs.Ranges.{Day, End, Number, Hour, OnDay, hour_of, day_of, place, distance, distance_if, later, text_behind}
use Rattle.fd_request.specs.Seen.{seen_day, seen_end, Fits, most}
use Rattle.fd_request.specs.Behind.{end_behind}
use Rattle.fd_request.proofs.Ends.{IsNumbered, numbered, later_day, place_is, number_in, hour_in}
use Rattle.fd_request.proofs.RangeLaws.{distance_is}

-- ---- the text of an end so far behind

pub text_again : (e : End) (far : ℕ) → text_behind (end_behind e far) 0 ≡ text_behind e far
unfolding text_behind end_behind later
text_again (Number z) far = ap signed_decimal (omega (arith, ints))
text_again (Hour h) far = ap (λ k. time_text k 0 0) (let e : h + far + 0 ≡ h + far = omega arith in e)
text_again (OnDay d) far = refl

-- ---- digits

value_of : (x : ℕ) → x < 10 → digit_value (48 + x) ≡ x
value_of x small =
    cond-false (ltb (48 + x) 48) 36 _ (le-ltb (48 + x) 48 (omega arith)) ∙ cond-true (ltb (48 + x) 58) (48 + x - 48) _ (lt-ltb (48 + x) 58 (omega arith)) ∙ omega arith

is_digit : (x : ℕ) → x < 10 → is_ascii_digit (48 + x) ≡ true
is_digit x small = and_from (leb 48 (48 + x)) (leb (48 + x) 57) (le-leb 48 (48 + x) (omega arith)) (le-leb (48 + x) 57 (omega arith))

two_are : (n : ℕ) → list_all is_ascii_digit (two_digits n) ≡ true
two_are n = and_from (is_ascii_digit (48 + n / 10 % 10)) (is_ascii_digit (48 + n % 10) && true) (is_digit (n / 10 % 10) (omega arith)) (and_from (is_ascii_digit (48 + n % 10)) true (is_digit (n % 10) (omega arith)) refl)

two_again : (most n : ℕ) → n < 100 → n ≤ most → number_up_to most (two_digits n) ≡ Some n
two_again most n few within =
    let value : digits_value 10 (two_digits n) ≡ n = omega (arith, value_of (n / 10 % 10) (omega arith), value_of (n % 10) (omega arith)) in
    number_is most n (two_digits n) (two_are n) value within

year_again : (n : ℕ) → n ≤ 9999 → number_up_to 9999 (two_digits (n / 100) ++ two_digits n) ≡ Some n
year_again n few =
    let value : digits_value 10 (two_digits (n / 100) ++ two_digits n) ≡ n =
    omega (arith, value_of (n / 100 / 10 % 10) (omega arith), value_of (n / 100 % 10) (omega arith), value_of (n / 10 % 10) (omega arith), value_of (n % 10) (omega arith)) in
    let are = and_from (is_ascii_digit (48 + n / 100 / 10 % 10)) (is_ascii_digit (48 + n / 100 % 10) && list_all is_ascii_digit (two_digits n)) (is_digit (n / 100 / 10 % 10) (omega arith))
    (and_from (is_ascii_digit (48 + n / 100 % 10)) (list_all is_ascii_digit (two_digits n)) (is_digit (n / 100 % 10) (omega arith)) (two_are n)) in
    number_is 9999 n (two_digits (n / 100) ++ two_digits n) are value few

-- ---- hours

hour_again : (h : ℕ) → h ≤ 23 → hour_of (time_text h 0 0) ≡ Some h
unfolding hour_of time_text
hour_again h few = two_again 23 h (omega arith) few

-- ---- days

has_day : (y m d : ℕ) → IsCivilDate (pos y) m d → y ≤ 9999 → is_date y m d ≡ true
has_day y m d civil few =
    let days : d ≤ month_days y m = civil.2.1 in
    let first : 1 ≤ d = civil.2.0 in
    let month : 1 ≤ m = civil.1.0 in
    let twelve : m ≤ 12 = civil.1.1 in
    and_from (leb y 9999) _ (le-leb y 9999 few)
    (and_from (leb 1 m) _ (le-leb 1 m month)
    (and_from (leb m 12) _ (le-leb m 12 twelve)
    (and_from (leb 1 d) (leb d (month_days y m)) (le-leb 1 d first) (le-leb d (month_days y m) days))))

day_again : (number : ℤ) (d : Day) → IsNumbered number d → day_of (date_text d.year d.month d.day) ≡ Some d
unfolding day_of date_text
day_again number d n =
    let high : pos d.year ≤ℤ pos 9999 = n.civil.0.1 in
    let few : d.year ≤ 9999 = omega (arith, ints, high) in
    let month : d.month ≤ 12 = n.civil.1.1 in
    let day : d.day ≤ 31 = omega (arith, (days_in_month_bounds (pos d.year) d.month).0, n.civil.2.1) in
    let y = year_again d.year few in
    let m = two_again 12 d.month (omega arith) month in
    let e = two_again 31 d.day (omega arith) day in
    rw (y, m, e, has_day d.year d.month d.day n.civil few) refl

-- ---- the value that a text is

-- a text is that of the number so far behind a number
pub record IsNumber (first : code_end.End) (text : List ℕ) (far : ℕ) (z : ℤ) : Type 0 where
  pub low : neg_ℤ (pos (10 ^ 15)) ≤ℤ z
  pub high : z ≤ℤ pos (10 ^ 15)
  pub is : text ≡ signed_decimal z
  pub end : end_behind (seen_end first) far ≡ Number z

pub number_at : (first : code_end.End) (z : ℤ) (text : List ℕ) (far : ℕ) → first ≡ ends.Number z → Fits (seen_end first) far → text ≡ text_behind (seen_end first) far → IsNumber first text far (z +ℤ pos far)
unfolding text_behind end_behind
number_at first z text far e f is =
    let fits : Fits (Number z) far = rw e at f in
    let same : text ≡ text_behind (Number z) far = rw e at is in
    let k = number_in z far fits in
    record { low = omega (arith, ints, k.0); high = k.1; is = same; end = ap (λ (x : code_end.End). end_behind (seen_end x) far) e }

-- a number in the bounds is kept by a word
pub number_kept : (z : ℤ) → neg_ℤ (pos (10 ^ 15)) ≤ℤ z → z ≤ℤ pos (10 ^ 15) → FitsSigned w64 z
number_kept z low high = omega (arith, ints)

pub number_small : (z : ℤ) → neg_ℤ (pos (10 ^ 15)) ≤ℤ z → z ≤ℤ pos (10 ^ 15) → mag z < 2 ^ 63
number_small (pos n) low high = omega (arith, ints)
number_small (negsuc n) low high = omega (arith, ints)

pub hour_at : (first : code_end.End) (h : ℕ) (text : List ℕ) (far : ℕ) → first ≡ ends.Hour h → Fits (seen_end first) far → text ≡ text_behind (seen_end first) far → (hour_of text ≡ Some (h + far)) × (end_behind (seen_end first) far ≡ Hour (h + far))
unfolding text_behind end_behind
hour_at first h text far e f is =
    let fits : Fits (Hour h) far = rw e at f in
    let same : text ≡ text_behind (Hour h) far = rw e at is in
    (ap hour_of same ∙ hour_again (h + far) (hour_in h far fits), ap (λ (x : code_end.End). end_behind (seen_end x) far) e)

pub day_at : (first : code_end.End) (d : code_day.Day) (text : List ℕ) (far : ℕ) → first ≡ ends.OnDay d → Fits (seen_end first) far → text ≡ text_behind (seen_end first) far
    → (day_of text ≡ Some (later far (seen_day d))) × (end_behind (seen_end first) far ≡ OnDay (later far (seen_day d)))
unfolding text_behind end_behind
day_at first d text far e f is =
    let fits : Fits (OnDay (seen_day d)) far = rw e at f in
    let same : text ≡ text_behind (OnDay (seen_day d)) far = rw e at is in
    (ap day_of same ∙ day_again (epoch_day d.date +ℤ pos far) (later far (seen_day d)) (numbered d far fits), ap (λ (x : code_end.End). end_behind (seen_end x) far) e)

-- ---- how far it is

no_less : (far : ℕ) → distance_if (pos far) ≡ Some far
no_less far = cond-false (ltb far 0) None (Some far) (le-ltb far 0 (omega arith))

pub far_again : (e : code_end.End) (far : ℕ) → Fits (seen_end e) far → distance (seen_end e) (end_behind (seen_end e) far) ≡ Some far
unfolding distance end_behind place
far_again (ends.Number z) far f = ap distance_if (let e : (z +ℤ pos far) -ℤ z ≡ pos far = omega (arith, ints) in e) ∙ no_less far
far_again (ends.Hour h) far f = ap distance_if (let e : pos (h + far) -ℤ pos h ≡ pos far = omega (arith, ints) in e) ∙ no_less far
far_again (ends.OnDay d) far f =
    let n = numbered d far f in
    let at = place_is d in
    ap distance_if (let e : place (OnDay (later far (seen_day d))) -ℤ place (OnDay (seen_day d)) ≡ pos far = omega (arith, ints, n.is, at) in e) ∙ no_less far

-- an end at this distance is the one so far behind
pub behind_is : (a b : code_end.End) (far : ℕ) → Fits (seen_end a) far → distance (seen_end a) (seen_end b) ≡ Some far → seen_end b ≡ end_behind (seen_end a) far
unfolding distance end_behind place
behind_is (ends.Number x) (ends.Number y) far f h = let z = distance_is (y -ℤ x) far h in ap Number (omega (arith, ints, z))
behind_is (ends.Hour x) (ends.Hour y) far f h = let z = distance_is (pos y -ℤ pos x) far h in ap Hour (omega (arith, ints, z))
behind_is (ends.OnDay x) (ends.OnDay y) far f h =
    let z = distance_is (place (OnDay (seen_day y)) -ℤ place (OnDay (seen_day x))) far h in
    let parts = later_day x far y.date f (omega (arith, ints, z, place_is x, place_is y)) in
    let l = later far (seen_day x) in
    let same : seen_day y ≡ l = rw (parts.0, parts.1, parts.2) refl in
    ap OnDay same
behind_is (ends.Number x) (ends.Hour y) far f h = absurd cc
behind_is (ends.Number x) (ends.OnDay y) far f h = absurd cc
behind_is (ends.Hour x) (ends.Number y) far f h = absurd cc
behind_is (ends.Hour x) (ends.OnDay y) far f h = absurd cc
behind_is (ends.OnDay x) (ends.Number y) far f h = absurd cc
behind_is (ends.OnDay x) (ends.Hour y) far f h = absurd cc
