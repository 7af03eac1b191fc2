-- A range goes as far as its last end.
use Rattle.std.proofs.Common.{◌≡◌, ℕ, zero, suc, ◌+◌, ◌-◌, ◌*◌, ◌/◌, ◌<◌, ◌≤◌, Bool, true, false, cond, eqb, leb, List, [], ◌∷◌, length, Option, Some, None, refl, sym, ap, subst, ◌∙◌, arith, ℤ, pos, ◌+ℤ◌, ◌-ℤ◌, ◌≤ℤ◌}
use Rattle.std.specs.Prelude.{◌&&◌, slice_get, option_map, nat_le}
use Rattle.std.proofs.Math.Nat.{mul-le-mul_right, div-mul-le_self, lt-div-mul-add}
use Rattle.std.proofs.lemmas.Int.{ints}
use Rattle.std.proofs.lemmas.Bool.{and_parts, eq-eqb}
use borrow.Author.Tests.{leb-true}
use Rattle.jiff_core.specs.declared.civil.date.Date.{Date}
use Rattle.jiff_core.specs.Calendar.{days_from_civil, IsCivilDate, IsEpochDay}
use Rattle.jiff_core.proofs.DateLemmas.{epoch_day_range, epoch_day_injective}
use Rattle.fd_spelling.specs.declared.meaning.Meaning.{Meaning}
use Rattle.fd_spelling.specs.declared.meaning.Meaning.TheVariants as meanings
use Rattle.fd_spelling.specs.Names.{meaning_of}
use Rattle.fd_spelling.specs.Numerals.{number_up_to, ◌>>=◌}
use Rattle.fd_spelling.specs.Civil.{month_days, is_date}
use Rattle.fd_spelling.specs.Texts.{spelled}
use Rattle.fd_request.specs.Ranges.{Day, End, Number, Hour, OnDay, next_day, later, whole, signed_whole, hour_of, day_if, day_of, end_in, end_of, place, distance, text_behind, values_from, above_zero, step_of, between}
use Rattle.fd_request.specs.Behind.{end_behind}
use Rattle.fd_request.specs.Reached.{IsRange}
use Rattle.fd_request.proofs.Ends.{later_is}
use Rattle.fd_request.proofs.RangeLaws.{distance_is, length_values, get_value}

-- ---- what was read is an end: its day is one of the calendar

abbrev IsEnd : End → Type 0
IsEnd (Number z) = Unit {0}
IsEnd (Hour h) = Unit {0}
IsEnd (OnDay d) = IsCivilDate (pos d.year) d.month d.day

abbrev ReadEnd : Option End → Type 0
ReadEnd None = Unit {0}
ReadEnd (Some e) = IsEnd e

abbrev ReadDay : Option Day → Type 0
ReadDay None = Unit {0}
ReadDay (Some d) = IsCivilDate (pos d.year) d.month d.day

abbrev Moves : Option ℕ → Type 0
Moves None = Unit {0}
Moves (Some n) = 0 < n

civil_of : (y m d : ℕ) → is_date y m d ≡ true → IsCivilDate (pos y) m d
civil_of y m d h =
    let year = and_parts (nat_le y 9999) (nat_le 1 m && (nat_le m 12 && (nat_le 1 d && nat_le d (month_days y m)))) h in
    let some = and_parts (nat_le 1 m) (nat_le m 12 && (nat_le 1 d && nat_le d (month_days y m))) year.1 in
    let month = and_parts (nat_le m 12) (nat_le 1 d && nat_le d (month_days y m)) some.1 in
    let day = and_parts (nat_le 1 d) (nat_le d (month_days y m)) month.1 in
    let few : y ≤ 9999 = leb-true y 9999 year.0 in
    ((omega (arith, ints), omega (arith, ints, few)), (leb-true 1 m some.0, leb-true m 12 month.0), (leb-true 1 d day.0, leb-true d (month_days y m) day.1))

day_if_read : (y m d : ℕ) → ReadDay (day_if (is_date y m d) y m d)
day_if_read y m d = go (is_date y m d) refl
  where
    go : (b : Bool) → is_date y m d ≡ b → ReadDay (day_if b y m d)
    go true e = civil_of y m d e
    go false e = tt

bind_day : {A : Type 0} (o : Option A) (f : A → Option Day) → ((x : A) → ReadDay (f x)) → ReadDay (o >>= f)
bind_day None f each = tt
bind_day (Some x) f each = each x

bind_end : {A : Type 0} (o : Option A) (f : A → Option End) → ((x : A) → ReadEnd (f x)) → ReadEnd (o >>= f)
bind_end None f each = tt
bind_end (Some x) f each = each x

day_read : (text : List ℕ) → ReadDay (day_of text)
unfolding day_of
day_read [] = tt
day_read (a ∷ []) = tt
day_read (a ∷ b ∷ []) = tt
day_read (a ∷ b ∷ c ∷ []) = tt
day_read (a ∷ b ∷ c ∷ d ∷ []) = tt
day_read (a ∷ b ∷ c ∷ d ∷ m ∷ []) = tt
day_read (a ∷ b ∷ c ∷ d ∷ m ∷ n ∷ []) = tt
day_read (a ∷ b ∷ c ∷ d ∷ m ∷ n ∷ e ∷ []) = tt
day_read (a ∷ b ∷ c ∷ d ∷ m ∷ n ∷ e ∷ f ∷ []) =
    bind_day (number_up_to 9999 (a ∷ b ∷ c ∷ d ∷ [])) (λ year. number_up_to 12 (m ∷ n ∷ []) >>= λ month. number_up_to 31 (e ∷ f ∷ []) >>= λ day. day_if (is_date year month day) year month day)
    (λ year. bind_day (number_up_to 12 (m ∷ n ∷ [])) (λ month. number_up_to 31 (e ∷ f ∷ []) >>= λ day. day_if (is_date year month day) year month day)
    (λ month. bind_day (number_up_to 31 (e ∷ f ∷ [])) (λ day. day_if (is_date year month day) year month day) (λ day. day_if_read year month day)))
day_read (a ∷ b ∷ c ∷ d ∷ m ∷ n ∷ e ∷ f ∷ g ∷ more) = tt

number_read : (o : Option ℕ) → ReadEnd (option_map (λ n. Number (pos n)) o)
number_read None = tt
number_read (Some n) = tt

signed_read : (o : Option ℤ) → ReadEnd (option_map Number o)
signed_read None = tt
signed_read (Some z) = tt

hour_read : (o : Option ℕ) → ReadEnd (option_map Hour o)
hour_read None = tt
hour_read (Some h) = tt

on_day_read : (o : Option Day) → ReadDay o → ReadEnd (option_map OnDay o)
on_day_read None h = tt
on_day_read (Some d) h = h

in_read : (m : Meaning) (text : List ℕ) → ReadEnd (end_in m text)
unfolding end_in
in_read meanings.Centre text = number_read (whole text)
in_read meanings.Date text = on_day_read (day_of text) (day_read text)
in_read meanings.Time text = hour_read (hour_of text)
in_read meanings.ProcessedType text = number_read (whole text)
in_read meanings.Param text = tt
in_read meanings.Levtype text = tt
in_read meanings.Levelist text = number_read (whole text)
in_read meanings.Step text = signed_read (signed_whole text)
in_read meanings.Number text = number_read (whole text)
in_read meanings.Stat text = tt
in_read meanings.Other text = tt

end_read : (name text : List ℕ) → ReadEnd (end_of name text)
unfolding end_of
end_read name text = bind_end (spelled name text) (λ value. end_in (meaning_of name) value) (λ value. in_read (meaning_of name) value)

above_zero_moves : (o : Option ℕ) → Moves (above_zero o)
above_zero_moves None = tt
above_zero_moves (Some n) = go (eqb n 0) refl
  where
    go : (b : Bool) → eqb n 0 ≡ b → Moves (cond b None (Some n))
    go true e = tt
    go false e = let some : n ≡ 0 → ⊥ = λ z. (let bad : false ≡ true = sym e ∙ eq-eqb n 0 z in absurd cc) in omega (arith, some)

step_moves : (text : List ℕ) → Moves (step_of text)
unfolding step_of
step_moves text = go (leb (length text) 9)
  where
    go : (b : Bool) → Moves (cond b (above_zero (number_up_to 999_999_999 text)) None)
    go true = above_zero_moves (number_up_to 999_999_999 text)
    go false = tt

-- ---- the last end is as far behind the first as they are apart

abbrev day_from : ℕ → ℕ → ℕ → Day
day_from y m d = record { year = y; month = m; day = d }

same_day : (l e : Day) → pos l.year ≡ pos e.year → l.month ≡ e.month → l.day ≡ e.day → l ≡ e
same_day l e y m d =
    let year : l.year ≡ e.year = omega (arith, ints, y) in
    ap (λ k. day_from k l.month l.day) year ∙ ap (λ k. day_from e.year k l.day) m ∙ ap (day_from e.year e.month) d

day_reached : (d e : Day) (far : ℕ) → IsCivilDate (pos d.year) d.month d.day → IsCivilDate (pos e.year) e.month e.day
    → days_from_civil (pos e.year) e.month e.day -ℤ days_from_civil (pos d.year) d.month d.day ≡ pos far → later far d ≡ e
day_reached d e far before behind apart =
    let at = days_from_civil (pos d.year) d.month d.day in
    let date : Date = record { year = pos e.year; month = e.month; day = e.day; year_in = behind.0; month_in = behind.1; day_in = behind.2 } in
    let range : IsEpochDay (days_from_civil (pos e.year) e.month e.day) = epoch_day_range date in
    let high : (at +ℤ pos far) ≤ℤ pos 2_932_896 = omega (arith, ints, range.1, apart) in
    let n = later_is at d far (record { civil = before; is = refl }) high in
    let l = later far d in
    let reached : Date = record { year = pos l.year; month = l.month; day = l.day; year_in = n.civil.0; month_in = n.civil.1; day_in = n.civil.2 } in
    let here : at +ℤ pos far ≡ days_from_civil (pos e.year) e.month e.day = omega (arith, ints, apart) in
    let parts = epoch_day_injective reached date (n.is ∙ here) in
    same_day l e parts.0 parts.1 parts.2

reached : (first last : End) (far : ℕ) → IsEnd first → IsEnd last → distance first last ≡ Some far → end_behind first far ≡ last
unfolding distance place end_behind
reached (Number x) (Number y) far p q h = let apart = distance_is (y -ℤ x) far h in ap Number (let e : x +ℤ pos far ≡ y = omega (arith, ints, apart) in e)
reached (Hour x) (Hour y) far p q h = let apart = distance_is (pos y -ℤ pos x) far h in ap Hour (let e : x + far ≡ y = omega (arith, ints, apart) in e)
reached (OnDay d) (OnDay e) far p q h = ap OnDay (day_reached d e far p q (distance_is (days_from_civil (pos e.year) e.month e.day -ℤ days_from_civil (pos d.year) d.month d.day) far h))
reached (Number x) (Hour y) far p q h = let none : None ≡ Some far = h in absurd cc
reached (Number x) (OnDay y) far p q h = let none : None ≡ Some far = h in absurd cc
reached (Hour x) (Number y) far p q h = let none : None ≡ Some far = h in absurd cc
reached (Hour x) (OnDay y) far p q h = let none : None ≡ Some far = h in absurd cc
reached (OnDay x) (Number y) far p q h = let none : None ≡ Some far = h in absurd cc
reached (OnDay x) (Hour y) far p q h = let none : None ≡ Some far = h in absurd cc

later_more : (n m : ℕ) (d : Day) → later m (later n d) ≡ later (n + m) d
unfolding later
later_more n zero d = ap (λ k. later k d) (let e : n ≡ n + 0 = omega arith in e)
later_more n (suc m) d = ap next_day (later_more n m d) ∙ ap (λ k. later k d) (let e : suc (n + m) ≡ n + suc m = omega arith in e)

behind_more : (e : End) (n m : ℕ) → end_behind (end_behind e n) m ≡ end_behind e (n + m)
unfolding end_behind
behind_more (Number z) n m = ap Number (omega (arith, ints))
behind_more (Hour h) n m = ap Hour (omega arith)
behind_more (OnDay d) n m = ap OnDay (later_more n m d)

-- ---- how far each value goes

left_over : (far q i step : ℕ) → q * step ≤ far → i < q + 1 → i * step + (far - i * step) ≡ far
left_over far q i step le lt = let few : i ≤ q = omega arith in let product : i * step ≤ q * step = mul-le-mul_right step few in omega (arith, product, le)

one_more : (far q step : ℕ) → far < q * step + step → (more : ℕ) × (0 < more) × (far + more ≡ (q + 1) * step)
one_more far q step lt =
    let next : (q + 1) * step ≡ q * step + step = omega arith in
    ((q * step + step) - far, omega (arith, lt), omega (arith, lt, next))

range_is : (name a b c : List ℕ) (first last : End) (step far : ℕ) (values : List (List ℕ)) → end_of name a ≡ Some first → end_of name b ≡ Some last → step_of c ≡ Some step
    → 0 < step → end_behind first far ≡ last → values ≡ values_from first step 0 (far / step + 1) → IsRange name a b c values
range_is name a b c first last step far values begins ends moves some reach same =
    let count : length values ≡ far / step + 1 = ap length same ∙ length_values first step 0 (far / step + 1) in
    let low : far / step * step ≤ far = div-mul-le_self far step in
    let next = one_more far (far / step) step (lt-div-mul-add some) in
    record {
      first = first;
      last = last;
      step = step;
      begins = begins;
      ends = ends;
      moves = moves;
      steps = λ i lt. ap (λ (vs : List (List ℕ)). slice_get vs i) same ∙ get_value first step 0 (far / step + 1) i (omega (arith, lt, count)) ∙ ap (λ k. Some (text_behind first k)) (let e : 0 + i * step ≡ i * step = omega arith in e);
      within = λ i lt. (far - i * step, behind_more first (i * step) (far - i * step) ∙ ap (end_behind first) (left_over far (far / step) i step low (omega (arith, lt, count))) ∙ reach);
      over = (next.0, next.1, ap (λ e. end_behind e next.0) (sym reach) ∙ behind_more first far next.0 ∙ ap (end_behind first) (next.2 ∙ ap (λ n. n * step) (sym count)));
    }

bound : {A B : Type 0} (o : Option A) (f : A → Option B) (y : B) → (o >>= f) ≡ Some y → (x : A) × (o ≡ Some x) × (f x ≡ Some y)
bound None f y h = let none : None ≡ Some y = h in absurd cc
bound (Some x) f y h = (x, refl, h)

-- a range has its values from its first end up to its last one
pub goes_up_to : (name a b c : List ℕ) (values : List (List ℕ)) → between name a b c ≡ Some values → IsRange name a b c values
unfolding between
goes_up_to name a b c values h =
    let first = bound (end_of name a) (λ e. end_of name b >>= λ last. step_of c >>= λ step. distance e last >>= λ far. Some (values_from e step 0 (far / step + 1))) values h in
    let last = bound (end_of name b) (λ e. step_of c >>= λ step. distance first.0 e >>= λ far. Some (values_from first.0 step 0 (far / step + 1))) values first.2 in
    let step = bound (step_of c) (λ n. distance first.0 last.0 >>= λ far. Some (values_from first.0 n 0 (far / n + 1))) values last.2 in
    let far = bound (distance first.0 last.0) (λ k. Some (values_from first.0 step.0 0 (k / step.0 + 1))) values step.2 in
    let same : values ≡ values_from first.0 step.0 0 (far.0 / step.0 + 1) = (let some : Some (values_from first.0 step.0 0 (far.0 / step.0 + 1)) ≡ Some values = far.2 in cc) in
    let some : Moves (Some step.0) = subst Moves step.1 (step_moves c) in
    let begins : ReadEnd (Some first.0) = subst ReadEnd first.1 (end_read name a) in
    let ends : ReadEnd (Some last.0) = subst ReadEnd last.1 (end_read name b) in
    range_is name a b c first.0 last.0 step.0 far.0 values first.1 last.1 step.1 some (reached first.0 last.0 far.0 begins ends far.1) same
