-- Steps, spelled again.
use Rattle.std.proofs.Common.{◌≡◌, ◌<◌, ◌≤◌, ◌+◌, ◌*◌, ◌/◌, ◌%◌, ◌^◌, ◌∙◌, ℕ, Bool, true, false, cond, not, List, [], ◌∷◌, ◌++◌, length, take, drop, eqb, ltb, leb, Option, Some, None, refl, sym, ap, append_assoc, length-append, subst, arith}
use Rattle.std.specs.Prelude.{◌&&◌, codes, option_map, is_some}
use Rattle.std.specs.List.{list_all}
use Rattle.std.specs.Char.{is_ascii_digit}
use Rattle.std.specs.Str.Parse.{digits_value}
use Rattle.std.specs.Fmt.{decimal}
use Rattle.std.proofs.lemmas.Bool.{and_parts, and_from, cond-true, cond-false, le-leb, leb-true, eq-eqb, ne_eqb, eqb-true, eqb-false, ltb-true, ltb-false}
use Rattle.std.proofs.lemmas.Bool.Decides.{nat_tests}
use Rattle.std.proofs.lemmas.List.{append-nil}
use Rattle.std.proofs.lemmas.Fmt.{length-decimal-le_wide}
use Rattle.std.proofs.lemmas.Str.Parse.{digits_value_short}
use Rattle.std.proofs.Math.Seq.{take-append_seam, drop-append_seam}
use Rattle.std.proofs.lemmas.List.{length-take}
use Rattle.fd_spelling.specs.Names.{is_value_byte, is_value}
use Rattle.fd_spelling.specs.Numerals.{number_up_to, digit_count}
use Rattle.fd_spelling.specs.Steps.{unit_seconds, sign_text, seconds_text, magnitude_text, step_text, without_seconds, unit_of, unsigned_step, step_spelling}
use Rattle.fd_spelling.proofs.Digits.{numerals, front_digits}
use Rattle.fd_spelling.proofs.ValueLaws.{are_values, value_from, joined, digits_are_values}
use Rattle.fd_spelling.proofs.Again.{map_some, when_some, number_least, number_again, decimal_digits, decimal_some, decimal_value, is_without, digits_without}

-- ---- a number and its unit

-- no digit stands first
abbrev pub begins_digit : List ℕ → Bool
begins_digit [] = false
begins_digit (b ∷ bs) = is_ascii_digit b

count_none : (text : List ℕ) → begins_digit text ≡ false → digit_count text ≡ 0
count_none [] h = refl
count_none (b ∷ bs) h = ap (λ d. cond (not (not d)) (1 + digit_count bs) 0) h

count_is : (ds text : List ℕ) → list_all is_ascii_digit ds ≡ true → begins_digit text ≡ false → digit_count (ds ++ text) ≡ length ds
count_is [] text digits h = count_none text h
count_is (d ∷ ds) text digits h =
    let parts = and_parts (is_ascii_digit d) (list_all is_ascii_digit ds) digits in
    ap (λ x. cond (not (not x)) (1 + digit_count (ds ++ text)) 0) parts.0 ∙ omega (arith, count_is ds text parts.1 h)

unsigned_again : (negative : Bool) (k unit : ℕ) (suffix : List ℕ) → k < 10 ^ 15 → unit_of suffix ≡ Some unit → begins_digit suffix ≡ false
    → unsigned_step negative (decimal k ++ suffix) ≡ Some (step_text negative k unit)
unfolding unsigned_step
unsigned_again negative k unit suffix few is open_ =
    let text : List ℕ = decimal k ++ suffix in
    let count : digit_count text ≡ length (decimal k) = count_is (decimal k) suffix (decimal_digits k (omega arith)) open_ in
    let some : 0 < length (decimal k) = decimal_some k (omega arith) in
    let short : length (decimal k) ≤ 15 = length-decimal-le_wide 15 k (omega arith) few (omega arith) in
    let within : (leb 1 (digit_count text) && leb (digit_count text) 15) ≡ true =
    and_from (leb 1 (digit_count text)) (leb (digit_count text) 15) (le-leb 1 (digit_count text) (omega arith)) (le-leb (digit_count text) 15 (omega arith)) in
    let front : take (digit_count text) text ≡ decimal k = ap (λ n. take n text) count ∙ take-append_seam (decimal k) suffix in
    let back : drop (digit_count text) text ≡ suffix = ap (λ n. drop n text) count ∙ drop-append_seam (decimal k) suffix in
    cond-true (leb 1 (digit_count text) && leb (digit_count text) 15) (option_map (step_text negative (digits_value 10 (take (digit_count text) text))) (unit_of (drop (digit_count text) text))) None within
    ∙ ap (λ (ds : List ℕ). option_map (step_text negative (digits_value 10 ds)) (unit_of (drop (digit_count text) text))) front
    ∙ ap (λ n. option_map (step_text negative n) (unit_of (drop (digit_count text) text))) (decimal_value k (omega arith))
    ∙ ap (λ (t : List ℕ). option_map (step_text negative k) (unit_of t)) back
    ∙ ap (option_map (step_text negative k)) is

-- ---- the sign

unsigned_first : (ds text : List ℕ) → list_all is_ascii_digit ds ≡ true → 0 < length ds → step_spelling (ds ++ text) ≡ unsigned_step false (ds ++ text)
unfolding step_spelling
unsigned_first [] text digits some = absurd (omega arith)
unsigned_first (d ∷ ds) text digits some =
    let digit : is_ascii_digit d ≡ true = (and_parts (is_ascii_digit d) (list_all is_ascii_digit ds) digits).0 in
    let other : eqb d 45 ≡ false = grind (arith, nat_tests) in
    cond-false (eqb d 45) (unsigned_step true (ds ++ text)) (unsigned_step false (d ∷ (ds ++ text))) other

signed_first : (text : List ℕ) → step_spelling (45 ∷ text) ≡ unsigned_step true text
unfolding step_spelling
signed_first text = refl

-- the sign of a number, a number and a unit, read again
sign_again : (negative : Bool) (k unit : ℕ) (suffix : List ℕ) → k < 10 ^ 15 → unit_of suffix ≡ Some unit → begins_digit suffix ≡ false
    → step_spelling (sign_text negative k ++ (decimal k ++ suffix)) ≡ Some (step_text negative k unit)
unfolding step_text
sign_again false k unit suffix few is open_ =
    unsigned_first (decimal k) suffix (decimal_digits k (omega arith)) (decimal_some k (omega arith)) ∙ unsigned_again false k unit suffix few is open_
sign_again true k unit suffix few is open_ = go (ltb 0 k) refl
  where
    magnitude : List ℕ
    magnitude = magnitude_text k unit (unit_seconds unit)

    go : (z : Bool) → ltb 0 k ≡ z → step_spelling (cond z (45 ∷ []) [] ++ (decimal k ++ suffix)) ≡ Some (cond z (45 ∷ []) [] ++ magnitude)
    go true e = signed_first (decimal k ++ suffix) ∙ unsigned_again true k unit suffix few is open_ ∙ ap (λ z. Some (cond z (45 ∷ []) [] ++ magnitude)) e
    go false e = unsigned_first (decimal k) suffix (decimal_digits k (omega arith)) (decimal_some k (omega arith)) ∙ unsigned_again false k unit suffix few is open_

-- ---- a step in its one spelling

pub record IsStep (negative : Bool) (text : List ℕ) : Type 0 where
  pub number : ℕ
  pub unit : ℕ
  pub suffix : List ℕ
  pub few : number < 10 ^ 15
  pub unit_is : unit_of suffix ≡ Some unit
  pub ends : begins_digit suffix ≡ false
  pub bytes : are_values suffix ≡ true
  pub without_plus : is_without 43 suffix ≡ true
  pub short : length suffix ≤ 4
  pub is : text ≡ sign_text negative number ++ (decimal number ++ suffix)
  pub spelled : text ≡ step_text negative number unit

pub step_again : (negative : Bool) (text : List ℕ) → IsStep negative text → step_spelling text ≡ Some text
step_again negative text s = ap step_spelling s.is ∙ sign_again negative s.number s.unit s.suffix s.few s.unit_is s.ends ∙ ap (λ x. Some x) (sym s.spelled)

sign_bytes : (z : Bool) → are_values (cond z (45 ∷ []) []) ≡ true
sign_bytes true = refl
sign_bytes false = refl

abbrev nil : List ℕ
nil = []

sign_short : (z : Bool) → length (cond z (45 ∷ nil) nil) ≤ 1
sign_short true = omega arith
sign_short false = omega arith

-- the same without a sign
pub unsigned_step_again : (text : List ℕ) → IsStep false text → unsigned_step false text ≡ Some text
unsigned_step_again text s = ap (unsigned_step false) s.is ∙ unsigned_again false s.number s.unit s.suffix s.few s.unit_is s.ends ∙ ap (λ x. Some x) (sym s.spelled)

pub step_is_value : (negative : Bool) (text : List ℕ) → IsStep negative text → is_value text ≡ true
step_is_value negative text s =
    let sign : List ℕ = sign_text negative s.number in
    let digits : List ℕ = decimal s.number in
    let few : s.number < 10 ^ 15 = s.few in
    let bytes : are_values (sign ++ (digits ++ s.suffix)) ≡ true =
    joined sign (digits ++ s.suffix) (sign_bytes (negative && ltb 0 s.number)) (joined digits s.suffix (digits_are_values digits (decimal_digits s.number (omega arith))) s.bytes) in
    let some : 0 < length digits = decimal_some s.number (omega arith) in
    let short : length digits ≤ 15 = length-decimal-le_wide 15 s.number (omega arith) few (omega arith) in
    let one : length sign ≤ 1 = sign_short (negative && ltb 0 s.number) in
    let all : length (sign ++ (digits ++ s.suffix)) ≡ length sign + length (digits ++ s.suffix) = length-append sign (digits ++ s.suffix) in
    let back : length (digits ++ s.suffix) ≡ length digits + length s.suffix = length-append digits s.suffix in
    ap is_value s.is ∙ value_from (sign ++ (digits ++ s.suffix)) bytes (omega arith) (omega (arith, s.short))

-- ---- what is read is such a step

same_sign : (negative : Bool) (n k : ℕ) → (0 < n → 0 < k) → (0 < k → 0 < n) → sign_text negative n ≡ sign_text negative k
same_sign negative n k there back = go (ltb 0 n) (ltb 0 k) refl refl
  where
    go : (x y : Bool) → ltb 0 n ≡ x → ltb 0 k ≡ y → cond (negative && ltb 0 n) (45 ∷ nil) nil ≡ cond (negative && ltb 0 k) (45 ∷ nil) nil
    go true true ex ey = rw (ex, ey) refl
    go false false ex ey = rw (ex, ey) refl
    go true false ex ey = let some : 0 < k = there (ltb-true 0 n ex) in let none : k ≤ 0 = ltb-false 0 k ey in absurd (omega arith)
    go false true ex ey = let some : 0 < n = back (ltb-true 0 k ey) in let none : n ≤ 0 = ltb-false 0 n ex in absurd (omega arith)

pub hours_text : (k : ℕ) → seconds_text (k * 3600) ≡ decimal k
hours_text k =
    let whole : k * 3600 % 3600 ≡ 0 = omega arith in
    let back : k * 3600 / 3600 ≡ k = omega arith in
    cond-true (eqb (k * 3600 % 3600) 0) (decimal (k * 3600 / 3600)) _ (eq-eqb _ _ whole) ∙ ap decimal back

minutes_text : (k : ℕ) → (k * 60 % 3600 ≡ 0 → ⊥) → seconds_text (k * 60) ≡ decimal k ++ codes "m"
minutes_text k not_hours =
    let whole : k * 60 % 60 ≡ 0 = omega arith in
    let back : k * 60 / 60 ≡ k = omega arith in
    cond-false (eqb (k * 60 % 3600) 0) _ (cond (eqb (k * 60 % 60) 0) (decimal (k * 60 / 60) ++ codes "m") (decimal (k * 60) ++ codes "s")) (ne_eqb _ _ not_hours)
    ∙ cond-true (eqb (k * 60 % 60) 0) (decimal (k * 60 / 60) ++ codes "m") _ (eq-eqb _ _ whole) ∙ ap (λ n. decimal n ++ codes "m") back

seconds_are : (s : ℕ) → (s % 3600 ≡ 0 → ⊥) → (s % 60 ≡ 0 → ⊥) → seconds_text s ≡ decimal s ++ codes "s"
seconds_are s not_hours not_minutes =
    cond-false (eqb (s % 3600) 0) _ (cond (eqb (s % 60) 0) (decimal (s / 60) ++ codes "m") (decimal s ++ codes "s")) (ne_eqb _ _ not_hours)
    ∙ cond-false (eqb (s % 60) 0) _ (decimal s ++ codes "s") (ne_eqb _ _ not_minutes)

hours_step : (negative : Bool) (k : ℕ) (text : List ℕ) → k < 10 ^ 15 → text ≡ sign_text negative k ++ decimal k → IsStep negative text
unfolding step_text unit_of
hours_step negative k text few is = record {
  number = k;
  unit = 1;
  suffix = [];
  few = few;
  unit_is = refl;
  ends = refl;
  bytes = refl;
  without_plus = refl;
  short = omega arith;
  is = is ∙ ap (λ t. sign_text negative k ++ t) (sym (append-nil (decimal k)));
  spelled = is ∙ ap (λ t. sign_text negative k ++ t) (sym (hours_text k));
}

minutes_step : (negative : Bool) (k : ℕ) (text : List ℕ) → k < 10 ^ 15 → (k * 60 % 3600 ≡ 0 → ⊥) → text ≡ sign_text negative k ++ (decimal k ++ codes "m") → IsStep negative text
unfolding step_text unit_of
minutes_step negative k text few not_hours is = record {
  number = k;
  unit = 0;
  suffix = codes "m";
  few = few;
  unit_is = refl;
  ends = refl;
  bytes = refl;
  without_plus = refl;
  short = omega arith;
  is = is;
  spelled = is ∙ ap (λ t. sign_text negative k ++ t) (sym (minutes_text k not_hours));
}

pub one_times : (k : ℕ) → k * 1 ≡ k
one_times k = omega arith

seconds_step : (negative : Bool) (k : ℕ) (text : List ℕ) → k < 10 ^ 15 → (k % 3600 ≡ 0 → ⊥) → (k % 60 ≡ 0 → ⊥) → text ≡ sign_text negative k ++ (decimal k ++ codes "s") → IsStep negative text
unfolding step_text unit_of
seconds_step negative k text few not_hours not_minutes is = record {
  number = k;
  unit = 13;
  suffix = codes "s";
  few = few;
  unit_is = refl;
  ends = refl;
  bytes = refl;
  without_plus = refl;
  short = omega arith;
  is = is;
  spelled = is ∙ ap (λ t. sign_text negative k ++ t) (sym (ap seconds_text (one_times k) ∙ seconds_are k not_hours not_minutes));
}

numbered_step : (negative : Bool) (k unit : ℕ) (text : List ℕ) → k < 10 ^ 15 → unit ≤ 255 → unit_seconds unit ≡ None → text ≡ sign_text negative k ++ ((decimal k ++ codes "u") ++ decimal unit) → IsStep negative text
unfolding step_text unit_of
numbered_step negative k unit text few within other is =
    let digits : list_all is_ascii_digit (decimal unit) ≡ true = decimal_digits unit (omega arith) in
    let short : length (decimal unit) ≤ 3 = length-decimal-le_wide 3 unit (omega arith) (omega arith) (omega arith) in
    record {
      number = k;
      unit = unit;
      suffix = 117 ∷ decimal unit;
      few = few;
      unit_is = ap without_seconds (number_again 255 unit within (omega arith)) ∙ ap (λ o. cond (is_some o) None (Some unit)) other;
      ends = refl;
      bytes = and_from (is_value_byte 117) (are_values (decimal unit)) refl (digits_are_values (decimal unit) digits);
      without_plus = and_from true (is_without 43 (decimal unit)) refl (digits_without 43 (decimal unit) refl digits);
      short = omega arith;
      is = is ∙ ap (λ t. sign_text negative k ++ t) (append_assoc (decimal k) (codes "u") (decimal unit));
      spelled = is ∙ ap (λ o. sign_text negative k ++ magnitude_text k unit o) (sym other);
    }

-- what a step's text gives
seconds_in : (negative : Bool) (n s : ℕ) (text : List ℕ) → s < 10 ^ 15 → (0 < n → 0 < s) → (0 < s → 0 < n) → text ≡ sign_text negative n ++ seconds_text s → IsStep negative text
seconds_in negative n s text few there back is = go (eqb (s % 3600) 0) (eqb (s % 60) 0) refl refl is
  where
    signed : (k : ℕ) (t : List ℕ) → (0 < s → 0 < k) → (0 < k → 0 < s) → sign_text negative n ++ t ≡ sign_text negative k ++ t
    signed k t up down = ap (λ x. x ++ t) (same_sign negative n k (λ h. up (there h)) (λ h. back (down h)))

    go : (x y : Bool) → eqb (s % 3600) 0 ≡ x → eqb (s % 60) 0 ≡ y → text ≡ sign_text negative n ++ cond x (decimal (s / 3600)) (cond y (decimal (s / 60) ++ codes "m") (decimal s ++ codes "s")) → IsStep negative text
    go true y ex ey e =
        let whole : s % 3600 ≡ 0 = eqb-true (s % 3600) 0 ex in
        hours_step negative (s / 3600) text (omega arith) (e ∙ signed (s / 3600) (decimal (s / 3600)) (λ h. omega arith) (λ h. omega arith))
    go false true ex ey e =
        let whole : s % 60 ≡ 0 = eqb-true (s % 60) 0 ey in
        let same : s / 60 * 60 ≡ s = omega arith in
        minutes_step negative (s / 60) text (omega arith) (λ h. eqb-false (s % 3600) 0 ex (ap (λ x. x % 3600) (sym same) ∙ h)) (e ∙ signed (s / 60) (decimal (s / 60) ++ codes "m") (λ h. omega arith) (λ h. omega arith))
    go false false ex ey e =
        seconds_step negative s text few (eqb-false (s % 3600) 0 ex) (eqb-false (s % 60) 0 ey) (e ∙ signed s (decimal s ++ codes "s") (λ h. h) (λ h. h))

minutes_in : (negative : Bool) (n : ℕ) (text : List ℕ) → n < 10 ^ 15 → text ≡ sign_text negative n ++ seconds_text (n * 60) → IsStep negative text
minutes_in negative n text few is = go (eqb (n * 60 % 3600) 0) refl
  where
    go : (z : Bool) → eqb (n * 60 % 3600) 0 ≡ z → IsStep negative text
    go true e =
        let whole : n * 60 % 3600 ≡ 0 = eqb-true (n * 60 % 3600) 0 e in
        let hours : seconds_text (n * 60) ≡ decimal (n * 60 / 3600) = cond-true (eqb (n * 60 % 3600) 0) (decimal (n * 60 / 3600)) _ e in
        hours_step negative (n * 60 / 3600) text (omega arith)
        (is ∙ ap (λ t. sign_text negative n ++ t) hours ∙ ap (λ t. t ++ decimal (n * 60 / 3600)) (same_sign negative n (n * 60 / 3600) (λ h. omega arith) (λ h. omega arith)))
    go false e =
        let not_hours : n * 60 % 3600 ≡ 0 → ⊥ = eqb-false (n * 60 % 3600) 0 e in
        minutes_step negative n text few not_hours (is ∙ ap (λ t. sign_text negative n ++ t) (minutes_text n not_hours))

-- the units that stand behind a number
data IsUnit : ℕ → Type 0 where
  Hours : IsUnit 1
  Minutes : IsUnit 0
  Seconds : IsUnit 13
  Numbered : (unit : ℕ) → unit ≤ 255 → unit_seconds unit ≡ None → IsUnit unit

pub numbered : (o : Option ℕ) (unit : ℕ) → without_seconds o ≡ Some unit → (o ≡ Some unit) × (unit_seconds unit ≡ None)
numbered None unit h = absurd (cc)
numbered (Some u) unit h = go (unit_seconds u) refl h
  where
    go : (s : Option ℕ) → unit_seconds u ≡ s → cond (is_some s) None (Some u) ≡ Some unit → (Some u ≡ Some unit) × (unit_seconds unit ≡ None)
    go None e k = let same : u ≡ unit = cc in (k, ap unit_seconds (sym same) ∙ e)
    go (Some s) e k = absurd (cc)

unit_in : (text : List ℕ) (unit : ℕ) → unit_of text ≡ Some unit → IsUnit unit
unfolding unit_of
unit_in [] unit h = let same : 1 ≡ unit = cc in subst (λ u. IsUnit u) same Hours
unit_in (b ∷ bs) unit h = go (eqb b 117) (eqb b 109 && eqb (length bs) 0) (eqb b 115 && eqb (length bs) 0) h
  where
    go : (x y z : Bool) → cond x (without_seconds (number_up_to 255 bs)) (cond y (Some 0) (cond z (Some 13) None)) ≡ Some unit → IsUnit unit
    go true y z e = let n = numbered (number_up_to 255 bs) unit e in Numbered unit (number_least 255 unit bs n.0) n.1
    go false true z e = let same : 0 ≡ unit = cc in subst (λ u. IsUnit u) same Minutes
    go false false true e = let same : 13 ≡ unit = cc in subst (λ u. IsUnit u) same Seconds
    go false false false e = absurd (cc)

with_unit : (negative : Bool) (n unit : ℕ) (text : List ℕ) → n < 10 ^ 15 → IsUnit unit → text ≡ step_text negative n unit → IsStep negative text
unfolding step_text
with_unit negative n unit text few Hours is = hours_step negative n text few (is ∙ ap (λ t. sign_text negative n ++ t) (hours_text n))
with_unit negative n unit text few Minutes is = minutes_in negative n text few is
with_unit negative n unit text few Seconds is = seconds_in negative n n text few (λ h. h) (λ h. h) (is ∙ ap (λ s. sign_text negative n ++ seconds_text s) (one_times n))
with_unit negative n unit text few (Numbered number within other) is = numbered_step negative n number text few within other (is ∙ ap (λ o. sign_text negative n ++ magnitude_text n number o) other)

pub unsigned_of : (negative : Bool) (given text : List ℕ) → unsigned_step negative given ≡ Some text → IsStep negative text
unfolding unsigned_step
unsigned_of negative given text h =
    let count : ℕ = digit_count given in
    let w = when_some (leb 1 count && leb count 15) (option_map (step_text negative (digits_value 10 (take count given))) (unit_of (drop count given))) text h in
    let m = map_some (step_text negative (digits_value 10 (take count given))) (unit_of (drop count given)) text w.1 in
    let short : count ≤ 15 = leb-true count 15 (and_parts (leb 1 count) (leb count 15) w.0).1 in
    let long : length (take count given) ≤ 15 = omega (arith, length-take count given) in
    let few : digits_value 10 (take count given) < 10 ^ 15 = digits_value_short numerals (take count given) 15 (front_digits given) long in
    with_unit negative (digits_value 10 (take count given)) m.0 text few (unit_in (drop count given) m.0 m.1) (sym m.2)

pub step_of : (given text : List ℕ) → step_spelling given ≡ Some text → (negative : Bool) × IsStep negative text
unfolding step_spelling
step_of [] text h = absurd (cc)
step_of (b ∷ bs) text h = go (eqb b 45) h
  where
    go : (z : Bool) → cond z (unsigned_step true bs) (unsigned_step false (b ∷ bs)) ≡ Some text → (negative : Bool) × IsStep negative text
    go true e = (true, unsigned_of true bs text e)
    go false e = (false, unsigned_of false (b ∷ bs) text e)
