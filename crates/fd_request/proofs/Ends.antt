-- Ends of ranges, and the values behind them.
use Rattle.std.proofs.Common.{◌≡◌, ℕ, zero, suc, ◌+◌, ◌^◌, ◌<◌, ◌≤◌, Bool, true, false, cond, ltb, [], ◌∷◌, length, refl, sym, ap, subst, ◌∙◌, arith, to_z, of_z, FitsSigned, w16, w64, ℤ, pos, negsuc, neg_ℤ, ◌+ℤ◌, ◌<ℤ◌, ◌≤ℤ◌, unsigned_abs}
use Rattle.std.specs.Fmt.{decimal, signed_decimal}
use Rattle.std.proofs.lemmas.Int.{ints, to_z-of_z}
use Rattle.std.proofs.lemmas.Fmt.{length-decimal-le_wide}
use borrow.Author.Tests.{ltb-true, ltb-false}
use Rattle.jiff_core.proofs.CalendarLemmas.{days_in_month_bounds}
use Rattle.jiff_core.specs.declared.civil.date.Date.{Date}
use Rattle.jiff_core.specs.Calendar.{days_from_civil, IsCivilDate, IsEpochDay}
use Rattle.jiff_core.specs.Date.{epoch_day}
use Rattle.jiff_core.proofs.DateLemmas.{civil, epoch_day_range, epoch_day_injective, days_from_civil-day, days_from_civil-next_month, days_from_civil-next_year, days_from_civil-max}
use Rattle.fd_spelling.specs.Civil.{month_days, date_text}
use Rattle.fd_spelling.specs.Names.{is_value}
use Rattle.fd_spelling.proofs.ValueLaws.{value_from, joined, decimal_bytes, decimal_some}
use Rattle.fd_request.specs.declared.day.Day as code_day
use Rattle.fd_request.specs.Ranges.{Day, Number, Hour, OnDay, place, later, next_day, text_behind}
use Rattle.fd_request.specs.Seen.{seen_day, Fits, most}

pub number_fits : (z : ℤ) → neg_ℤ (pos (10 ^ 15)) ≤ℤ z → z ≤ℤ pos (10 ^ 15) → Fits (Number z) 0
unfolding place most
number_fits z low high = record { low = low; high = omega (arith, ints) }

pub number_fits_back : (z : ℤ) → neg_ℤ (pos (10 ^ 15)) ≤ℤ z → z ≤ℤ pos (10 ^ 15) → Fits (Number (to_z w64 (of_z w64 z))) 0
number_fits_back z low high = let f : FitsSigned w64 z = omega (arith, ints) in rw to_z-of_z (number_fits z low high)

pub hour_fits : (h : ℕ) → h ≤ 23 → Fits (Hour h) 0
unfolding place most
hour_fits h high = record { low = omega (arith, ints); high = omega (arith, ints) }

abs_pos : (z : ℤ) → pos 0 ≤ℤ z → pos (unsigned_abs z) ≡ z
abs_pos (pos n) h = refl
abs_pos (negsuc n) h = absurd (omega (arith, ints))

place_is_numbered : (d : code_day.Day) → days_from_civil (pos (unsigned_abs d.date.year)) d.date.month d.date.day ≡ epoch_day d.date
place_is_numbered d = ap (λ (y : ℤ). days_from_civil y d.date.month d.date.day) (abs_pos d.date.year d.since_zero)

pub place_is : (d : code_day.Day) → place (OnDay (seen_day d)) ≡ epoch_day d.date
unfolding place
place_is d = place_is_numbered d

pub day_fits : (d : code_day.Day) → Fits (OnDay (seen_day d)) 0
unfolding most
day_fits d =
    let at = place_is d in
    let range : IsEpochDay (epoch_day d.date) = epoch_day_range d.date in
    record { low = rw at (omega (arith, ints, range.0)); high = rw at (omega (arith, ints, range.1)) }

-- what is known of ends that fit
pub number_in : (z : ℤ) (far : ℕ) → Fits (Number z) far → (neg_ℤ (pos (10 ^ 15)) ≤ℤ z) × ((z +ℤ pos far) ≤ℤ pos (10 ^ 15))
unfolding place most
number_in z far f = (f.low, f.high)

pub hour_in : (h far : ℕ) → Fits (Hour h) far → h + far ≤ 23
unfolding place most
hour_in h far f = let high : (pos h +ℤ pos far) ≤ℤ pos 23 = f.high in omega (arith, ints, high)

pub day_in : (d : code_day.Day) (far : ℕ) → Fits (OnDay (seen_day d)) far → IsEpochDay (epoch_day d.date +ℤ pos far)
unfolding most
day_in d far f =
    let range : IsEpochDay (epoch_day d.date) = epoch_day_range d.date in
    let high : (epoch_day d.date +ℤ pos far) ≤ℤ pos 2_932_896 = rw place_is at f.high in
    (omega (arith, ints, range.0), high)

pub day_far : (d : code_day.Day) (far : ℕ) → Fits (OnDay (seen_day d)) far → far < 2 ^ 32
day_far d far f =
    let range : IsEpochDay (epoch_day d.date) = epoch_day_range d.date in
    let high = day_in d far f in
    omega (arith, ints, range.0, high.1)

-- ---- days

-- a day of the years 0 to 9999, whose number is this
pub record IsNumbered (number : ℤ) (d : Day) : Type 0 where
  pub civil : IsCivilDate (pos d.year) d.month d.day
  pub is : days_from_civil (pos d.year) d.month d.day ≡ number

abbrev one_later : ℕ → ℕ → ℕ → Day
one_later y m d = next_day (record { year = y; month = m; day = d })

next_is : (number : ℤ) (d : Day) → IsNumbered number d → number <ℤ pos 2_932_896 → IsNumbered (number +ℤ pos 1) (next_day d)
next_is number d n below = go (ltb d.day (month_days d.year d.month)) refl
  where
    months : (b : Bool) → ltb d.month 12 ≡ b → d.day ≡ month_days d.year d.month → IsNumbered (number +ℤ pos 1) (cond b (record { year = d.year; month = d.month + 1; day = 1 }) (record { year = d.year + 1; month = 1; day = 1 }))
    months true e last =
        let month : d.month < 12 = ltb-true d.month 12 e in
        let bounds = days_in_month_bounds (pos d.year) (d.month + 1) in
        record {
          civil = (n.civil.0, (omega arith, omega arith), (omega arith, omega (arith, bounds.1)));
          is = days_from_civil-next_month (pos d.year) d.month d.day n.civil.1.0 last ∙ ap (λ (z : ℤ). z +ℤ pos 1) n.is;
        }
    months false e last =
        let twelve : d.month ≡ 12 = omega (arith, ltb-false d.month 12 e, n.civil.1.1) in
        let day : d.day ≡ 31 = last ∙ ap (month_days d.year) twelve in
        let at : days_from_civil (pos d.year) 12 31 ≡ number = ap (λ k. days_from_civil (pos d.year) k 31) (sym twelve) ∙ ap (days_from_civil (pos d.year) d.month) (sym day) ∙ n.is in
        let next : days_from_civil (pos (d.year + 1)) 1 1 ≡ number +ℤ pos 1 = days_from_civil-next_year (pos d.year) (pos (d.year + 1)) (omega (arith, ints)) (omega (arith, ints)) ∙ ap (λ (z : ℤ). z +ℤ pos 1) at in
        let other : d.year ≡ 9999 → ⊥ = λ e. (let top : number ≡ pos 2_932_896 = sym at ∙ ap (λ k. days_from_civil (pos k) 12 31) e ∙ days_from_civil-max in omega (arith, ints, below, top)) in
        let high : pos d.year ≤ℤ pos 9999 = n.civil.0.1 in
        record {
          civil = ((omega (arith, ints), omega (arith, ints, high, other)), (omega arith, omega arith), (omega arith, omega arith));
          is = next;
        }

    go : (b : Bool) → ltb d.day (month_days d.year d.month) ≡ b → IsNumbered (number +ℤ pos 1) (cond b (record { year = d.year; month = d.month; day = d.day + 1 })
        (cond (ltb d.month 12) (record { year = d.year; month = d.month + 1; day = 1 }) (record { year = d.year + 1; month = 1; day = 1 })))
    go true e =
        let more : d.day < month_days d.year d.month = ltb-true d.day (month_days d.year d.month) e in
        let first : 1 ≤ d.day = n.civil.2.0 in
        record {
          civil = (n.civil.0, n.civil.1, (omega arith, let le : d.day + 1 ≤ month_days d.year d.month = omega arith in le));
          is = (let moved = days_from_civil-day (pos d.year) d.month d.day (d.day + 1) first (omega arith) in omega (arith, ints, moved, n.is));
        }
    go false e = months (ltb d.month 12) refl (let within : d.day ≤ month_days d.year d.month = n.civil.2.1 in omega (arith, ltb-false d.day (month_days d.year d.month) e))

pub later_is : (first : ℤ) (d : Day) (far : ℕ) → IsNumbered first d → (first +ℤ pos far) ≤ℤ pos 2_932_896 → IsNumbered (first +ℤ pos far) (later far d)
unfolding later
later_is first d zero n high = record { civil = n.civil; is = n.is ∙ omega (arith, ints) }
later_is first d (suc far) n high =
    let before = later_is first d far n (omega (arith, ints)) in
    let next = next_is (first +ℤ pos far) (later far d) before (omega (arith, ints)) in
    record { civil = next.civil; is = next.is ∙ omega (arith, ints) }

-- the day so far behind another has the number so far behind
pub numbered : (d : code_day.Day) (far : ℕ) → Fits (OnDay (seen_day d)) far → IsNumbered (epoch_day d.date +ℤ pos far) (later far (seen_day d))
numbered d far f =
    let first : IsNumbered (epoch_day d.date) (seen_day d) = record {
      civil = (let P : ℤ → Type 0 = λ y. IsCivilDate y d.date.month d.date.day in subst P (sym (abs_pos d.date.year d.since_zero)) (civil d.date));
      is = place_is_numbered d;
    } in
    let range = day_in d far f in
    later_is (epoch_day d.date) (seen_day d) far first range.1

-- the day so far behind another, by its day number
pub later_day : (d : code_day.Day) (far : ℕ) (e : Date) → Fits (OnDay (seen_day d)) far → epoch_day e ≡ epoch_day d.date +ℤ pos far
    → (unsigned_abs e.year ≡ (later far (seen_day d)).year) × (e.month ≡ (later far (seen_day d)).month) × (e.day ≡ (later far (seen_day d)).day)
later_day d far e f is =
    let n = numbered d far f in
    let l = later far (seen_day d) in
    let same : Date = record { year = pos l.year; month = l.month; day = l.day; year_in = n.civil.0; month_in = n.civil.1; day_in = n.civil.2 } in
    let parts = epoch_day_injective e same (is ∙ sym n.is) in
    (ap unsigned_abs parts.0, parts.1, parts.2)

-- ---- numbers

number_value : (z : ℤ) → unsigned_abs z < 10 ^ 20 → is_value (signed_decimal z) ≡ true
number_value (pos n) small =
    value_from (decimal n) (decimal_bytes n (omega arith)) (decimal_some n (omega arith)) (let few : length (decimal n) ≤ 20 = length-decimal-le_wide 20 n (omega arith) (omega arith) (omega arith) in omega arith)
number_value (negsuc n) small =
    let few : length (decimal (suc n)) ≤ 20 = length-decimal-le_wide 20 (suc n) (omega arith) (omega arith) (omega arith) in
    value_from (45 ∷ decimal (suc n)) (joined (45 ∷ []) (decimal (suc n)) refl (decimal_bytes (suc n) (omega arith))) (omega arith) (omega arith)

pub signed_value : (z : ℤ) → neg_ℤ (pos (10 ^ 15)) ≤ℤ z → z ≤ℤ pos (10 ^ 15) → is_value (signed_decimal z) ≡ true
signed_value (pos n) low high = number_value (pos n) (omega (arith, ints))
signed_value (negsuc n) low high = number_value (negsuc n) (omega (arith, ints))

-- ---- texts

pub day_text_is : (d : code_day.Day) (far : ℕ) (e : Date) (y m k : ℕ) → Fits (OnDay (seen_day d)) far → epoch_day e ≡ epoch_day d.date +ℤ to_z w64 far → y ≡ unsigned_abs (to_z w16 (of_z w16 e.year)) → m ≡ e.month → k ≡ e.day
    → date_text y m k ≡ text_behind (OnDay (seen_day d)) far
unfolding text_behind
day_text_is d far e y m k f is year month day =
    let few = day_far d far f in
    let same : to_z w64 far ≡ pos far = omega (arith, ints) in
    let parts = later_day d far e f (is ∙ ap (λ (z : ℤ). epoch_day d.date +ℤ z) same) in
    let small : FitsSigned w16 e.year = omega (arith, ints, e.year_in.0, e.year_in.1) in
    rw (year, to_z-of_z w16 e.year small, month, day, parts.0, parts.1, parts.2) refl

pub number_text_is : (z : ℤ) (far : ℕ) → Fits (Number z) far → signed_decimal (to_z w64 (of_z w64 (to_z w64 (of_z w64 z) +ℤ to_z w64 far))) ≡ text_behind (Number z) far
unfolding text_behind
number_text_is z far f = let k = number_in z far f in ap signed_decimal (omega (arith, ints, k.0, k.1))
