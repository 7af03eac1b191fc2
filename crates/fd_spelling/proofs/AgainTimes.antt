-- Dates and times of day, spelled again.
use Rattle.std.proofs.Common.{◌≡◌, ◌<◌, ◌≤◌, ◌+◌, ◌-◌, ◌/◌, ◌%◌, ◌∙◌, ℕ, Bool, true, false, cond, List, [], ◌∷◌, ◌++◌, eqb, ltb, leb, Some, None, refl, sym, ap, arith}
use Rattle.std.specs.Prelude.{◌&&◌}
use Rattle.std.specs.List.{list_all}
use Rattle.std.specs.Char.{is_ascii_digit, digit_value}
use Rattle.std.specs.Str.Parse.{digits_value}
use Rattle.std.proofs.lemmas.Bool.{and_from, cond-true, cond-false, lt-ltb, le-ltb, le-leb}
use Rattle.fd_spelling.specs.Numerals.{is_numeral, number_up_to}
use Rattle.fd_spelling.specs.Civil.{is_date, two_digits, date_text, time_text, date_in, date_spelling, zero_digit, time_in, time_spelling}
use Rattle.fd_spelling.proofs.Again.{bind_some, choice_some, number_least, number_is}

-- ---- two and four digits

digit_is : (x : ℕ) → x < 10 → digit_value (48 + x) ≡ x
digit_is x small =
    let low : ltb (48 + x) 48 ≡ false = le-ltb (48 + x) 48 (omega arith) in
    let high : ltb (48 + x) 58 ≡ true = lt-ltb (48 + x) 58 (omega arith) in
    cond-false (ltb (48 + x) 48) 36 _ low ∙ cond-true (ltb (48 + x) 58) (48 + x - 48) _ high ∙ omega arith

is_digit : (x : ℕ) → x < 10 → is_ascii_digit (48 + x) ≡ true
is_digit x small = and_from (leb 48 (48 + x)) (leb (48 + x) 57) (le-leb 48 (48 + x) (omega arith)) (le-leb (48 + x) 57 (omega arith))

two_are : (n : ℕ) → is_numeral (two_digits n) ≡ true
two_are n = and_from (is_ascii_digit (48 + n / 10 % 10)) (is_ascii_digit (48 + n % 10) && true) (is_digit (n / 10 % 10) (omega arith)) (and_from (is_ascii_digit (48 + n % 10)) true (is_digit (n % 10) (omega arith)) refl)

two_value : (n : ℕ) → n < 100 → digits_value 10 (two_digits n) ≡ n
two_value n few = omega (arith, digit_is (n / 10 % 10) (omega arith), digit_is (n % 10) (omega arith))

two_again : (most n : ℕ) → n < 100 → n ≤ most → number_up_to most (two_digits n) ≡ Some n
two_again most n few within = number_is most n (two_digits n) (two_are n) (two_value n few) within

four_are : (n : ℕ) → is_numeral (two_digits (n / 100) ++ two_digits n) ≡ true
four_are n =
    and_from (is_ascii_digit (48 + n / 100 / 10 % 10)) (is_ascii_digit (48 + n / 100 % 10) && list_all is_ascii_digit (two_digits n)) (is_digit (n / 100 / 10 % 10) (omega arith))
    (and_from (is_ascii_digit (48 + n / 100 % 10)) (list_all is_ascii_digit (two_digits n)) (is_digit (n / 100 % 10) (omega arith)) (two_are n))

four_value : (n : ℕ) → n ≤ 9999 → digits_value 10 (two_digits (n / 100) ++ two_digits n) ≡ n
four_value n few =
    omega (arith, digit_is (n / 100 / 10 % 10) (omega arith), digit_is (n / 100 % 10) (omega arith), digit_is (n / 10 % 10) (omega arith), digit_is (n % 10) (omega arith))

four_again : (n : ℕ) → n ≤ 9999 → number_up_to 9999 (two_digits (n / 100) ++ two_digits n) ≡ Some n
four_again n few = number_is 9999 n (two_digits (n / 100) ++ two_digits n) (four_are n) (four_value n few) few

-- ---- dates

-- the text of a day that the calendar has
pub record IsDay (text : List ℕ) : Type 0 where
  pub year : ℕ
  pub month : ℕ
  pub day : ℕ
  pub year_few : year ≤ 9999
  pub month_few : month ≤ 12
  pub day_few : day ≤ 31
  pub has : is_date year month day ≡ true
  pub is : text ≡ date_text year month day

day_in : (year month day text : List ℕ) → date_in year month day ≡ Some text → IsDay text
unfolding date_in
day_in year month day text h =
    let y = bind_some (number_up_to 9999 year) _ text h in
    let m = bind_some (number_up_to 12 month) _ text y.2 in
    let d = bind_some (number_up_to 31 day) _ text m.2 in
    let c = choice_some (is_date y.0 m.0 d.0) (date_text y.0 m.0 d.0) text d.2 in
    record {
      year = y.0;
      month = m.0;
      day = d.0;
      year_few = number_least 9999 y.0 year y.1;
      month_few = number_least 12 m.0 month m.1;
      day_few = number_least 31 d.0 day d.1;
      has = c.0;
      is = sym c.1;
    }

dashed : (b : Bool) (year month day text : List ℕ) → cond b (date_in year month day) None ≡ Some text → IsDay text
dashed true year month day text h = day_in year month day text h
dashed false year month day text h = absurd (cc)

pub day_of : (given text : List ℕ) → date_spelling given ≡ Some text → IsDay text
unfolding date_spelling
day_of (a ∷ b ∷ c ∷ d ∷ m ∷ n ∷ e ∷ f ∷ []) text h = day_in (a ∷ b ∷ c ∷ d ∷ []) (m ∷ n ∷ []) (e ∷ f ∷ []) text h
day_of (a ∷ b ∷ c ∷ d ∷ x ∷ m ∷ n ∷ y ∷ e ∷ f ∷ []) text h = dashed (eqb x 45 && eqb y 45) (a ∷ b ∷ c ∷ d ∷ []) (m ∷ n ∷ []) (e ∷ f ∷ []) text h
day_of given text h = absurd (cc)

pub day_again : (text : List ℕ) → IsDay text → date_spelling text ≡ Some text
unfolding date_spelling date_in date_text
day_again text d =
    let y : number_up_to 9999 (two_digits (d.year / 100) ++ two_digits d.year) ≡ Some d.year = four_again d.year d.year_few in
    let m : number_up_to 12 (two_digits d.month) ≡ Some d.month = two_again 12 d.month (omega (arith, d.month_few)) d.month_few in
    let e : number_up_to 31 (two_digits d.day) ≡ Some d.day = two_again 31 d.day (omega (arith, d.day_few)) d.day_few in
    let whole : date_in (two_digits (d.year / 100) ++ two_digits d.year) (two_digits d.month) (two_digits d.day) ≡ Some (date_text d.year d.month d.day) =
    rw (y, m, e, d.has) refl in
    ap date_spelling d.is ∙ whole ∙ ap (λ t. Some t) (sym d.is)

-- ---- times of day

pub record IsTimeOfDay (text : List ℕ) : Type 0 where
  pub hour : ℕ
  pub minute : ℕ
  pub second : ℕ
  pub hour_few : hour ≤ 23
  pub minute_few : minute ≤ 59
  pub second_few : second ≤ 59
  pub is : text ≡ time_text hour minute second

moment_in : (hours minutes seconds text : List ℕ) → time_in hours minutes seconds ≡ Some text → IsTimeOfDay text
unfolding time_in
moment_in hours minutes seconds text e =
    let h = bind_some (number_up_to 23 hours) _ text e in
    let m = bind_some (number_up_to 59 minutes) _ text h.2 in
    let s = bind_some (number_up_to 59 seconds) _ text m.2 in
    record {
      hour = h.0;
      minute = m.0;
      second = s.0;
      hour_few = number_least 23 h.0 hours h.1;
      minute_few = number_least 59 m.0 minutes m.1;
      second_few = number_least 59 s.0 seconds s.1;
      is = let same : time_text h.0 m.0 s.0 ≡ text = cc in sym same;
    }

colons : (b : Bool) (hours minutes seconds text : List ℕ) → cond b (time_in hours minutes seconds) None ≡ Some text → IsTimeOfDay text
colons true hours minutes seconds text h = moment_in hours minutes seconds text h
colons false hours minutes seconds text h = absurd (cc)

pub moment_of : (given text : List ℕ) → time_spelling given ≡ Some text → IsTimeOfDay text
unfolding time_spelling
moment_of (h ∷ []) text e = moment_in (h ∷ []) zero_digit zero_digit text e
moment_of (h ∷ i ∷ []) text e = moment_in (h ∷ i ∷ []) zero_digit zero_digit text e
moment_of (h ∷ i ∷ m ∷ n ∷ []) text e = moment_in (h ∷ i ∷ []) (m ∷ n ∷ []) zero_digit text e
moment_of (h ∷ i ∷ c ∷ m ∷ n ∷ []) text e = colons (eqb c 58) (h ∷ i ∷ []) (m ∷ n ∷ []) zero_digit text e
moment_of (h ∷ i ∷ m ∷ n ∷ s ∷ t ∷ []) text e = moment_in (h ∷ i ∷ []) (m ∷ n ∷ []) (s ∷ t ∷ []) text e
moment_of (h ∷ i ∷ c ∷ m ∷ n ∷ d ∷ s ∷ t ∷ []) text e = colons (eqb c 58 && eqb d 58) (h ∷ i ∷ []) (m ∷ n ∷ []) (s ∷ t ∷ []) text e
moment_of given text e = absurd (cc)

zero_again : number_up_to 59 zero_digit ≡ Some 0
zero_again = number_is 59 0 zero_digit refl refl (omega arith)

time_again : (h m s : ℕ) → h ≤ 23 → m ≤ 59 → s ≤ 59 → time_spelling (time_text h m s) ≡ Some (time_text h m s)
unfolding time_spelling time_in time_text
time_again h m s hs ms ss = go (eqb s 0) refl
  where
    hh : number_up_to 23 (two_digits h) ≡ Some h
    hh = two_again 23 h (omega arith) hs

    mm : number_up_to 59 (two_digits m) ≡ Some m
    mm = two_again 59 m (omega arith) ms

    sec : number_up_to 59 (two_digits s) ≡ Some s
    sec = two_again 59 s (omega arith) ss

    go : (b : Bool) → eqb s 0 ≡ b → time_spelling (two_digits h ++ two_digits m ++ cond b [] (two_digits s)) ≡ Some (two_digits h ++ two_digits m ++ cond b [] (two_digits s))
    go true e = rw (hh, mm, zero_again) refl
    go false e = rw (hh, mm, sec, e) refl

pub moment_again : (text : List ℕ) → IsTimeOfDay text → time_spelling text ≡ Some text
moment_again text t = ap time_spelling t.is ∙ time_again t.hour t.minute t.second t.hour_few t.minute_few t.second_few ∙ ap (λ x. Some x) (sym t.is)
