-- Numbers and cut texts, read again.
use Rattle.std.proofs.Common.{◌≡◌, ◌<◌, ◌≤◌, ◌+◌, ◌^◌, ◌∙◌, ℕ, Bool, true, false, cond, not, List, [], ◌∷◌, ◌++◌, length, take, drop, eqb, ltb, leb, Option, Some, None, refl, ap, arith, length-append}
use Rattle.std.specs.Prelude.{◌&&◌, option_map}
use Rattle.std.specs.List.{list_all, position_or_len}
use Rattle.std.specs.Char.{is_ascii_digit}
use Rattle.std.specs.Str.Parse.{digits_value}
use Rattle.std.specs.Fmt.{decimal}
use Rattle.std.proofs.lemmas.Bool.{and_parts, and_from, cond-true, cond-false, lt-ltb, le-ltb, le-leb, leb-true, eq-eqb, eqb-true}
use Rattle.std.proofs.lemmas.Fmt.{decimal_is_IsNumeral_wide}
use Rattle.std.proofs.Math.Seq.{take-append_seam, drop-append-add}
use Rattle.fd_spelling.specs.Numerals.{is_numeral, number_up_to, cut, ◌>>=◌}
use Rattle.fd_spelling.proofs.Digits.{numerals}

-- ---- options

pub bind_some : {A B : Type 0} (o : Option A) (f : A → Option B) (y : B) → (o >>= f) ≡ Some y → (x : A) × (o ≡ Some x) × (f x ≡ Some y)
bind_some None f y h = absurd (cc)
bind_some (Some x) f y h = (x, refl, h)

pub map_some : {A B : Type 0} (f : A → B) (o : Option A) (y : B) → option_map f o ≡ Some y → (x : A) × (o ≡ Some x) × (f x ≡ y)
map_some f None y h = absurd (cc)
map_some f (Some x) y h = (x, refl, cc)

pub choice_some : {A : Type 0} (b : Bool) (x y : A) → cond b (Some x) None ≡ Some y → (b ≡ true) × (x ≡ y)
choice_some true x y h = (refl, cc)
choice_some false x y h = absurd (cc)

pub when_some : {A : Type 0} (b : Bool) (o : Option A) (y : A) → cond b o None ≡ Some y → (b ≡ true) × (o ≡ Some y)
when_some true o y h = (refl, h)
when_some false o y h = absurd (cc)

-- ---- numbers

pub number_least : (most n : ℕ) (text : List ℕ) → number_up_to most text ≡ Some n → n ≤ most
unfolding number_up_to
number_least most n text h =
    let c = choice_some (is_numeral text && leb (digits_value 10 text) most) (digits_value 10 text) n h in
    let within = leb-true (digits_value 10 text) most (and_parts (is_numeral text) (leb (digits_value 10 text) most) c.0).1 in
    omega (arith, within, c.1)

-- a numeral is its number, where that is small enough
pub number_is : (most n : ℕ) (text : List ℕ) → is_numeral text ≡ true → digits_value 10 text ≡ n → n ≤ most → number_up_to most text ≡ Some n
unfolding number_up_to
number_is most n text numeral value within =
    let few : leb (digits_value 10 text) most ≡ true = le-leb (digits_value 10 text) most (omega arith) in
    cond-true (is_numeral text && leb (digits_value 10 text) most) (Some (digits_value 10 text)) None (and_from (is_numeral text) (leb (digits_value 10 text) most) numeral few) ∙ ap (λ x. Some x) value

pub decimal_digits : (n : ℕ) → n < 10 ^ 64 → list_all is_ascii_digit (decimal n) ≡ true
decimal_digits n few = numerals.from (decimal n) (decimal_is_IsNumeral_wide n few).0.1

pub decimal_some : (n : ℕ) → n < 10 ^ 64 → 0 < length (decimal n)
decimal_some n few = (decimal_is_IsNumeral_wide n few).0.0

pub decimal_value : (n : ℕ) → n < 10 ^ 64 → digits_value 10 (decimal n) ≡ n
decimal_value n few = (decimal_is_IsNumeral_wide n few).1

pub decimal_numeral : (n : ℕ) → n < 10 ^ 64 → is_numeral (decimal n) ≡ true
decimal_numeral n few = and_from (ltb 0 (length (decimal n))) (list_all is_ascii_digit (decimal n)) (lt-ltb 0 (length (decimal n)) (decimal_some n few)) (decimal_digits n few)

-- the digits of a number are that number
pub number_again : (most n : ℕ) → n ≤ most → n < 10 ^ 64 → number_up_to most (decimal n) ≡ Some n
number_again most n within few = number_is most n (decimal n) (decimal_numeral n few) (decimal_value n few) within

-- ---- texts cut at a mark

-- the mark is none of these bytes
abbrev pub is_without : ℕ → List ℕ → Bool
is_without mark text = list_all (λ b. not (eqb b mark)) text

place : (mark : ℕ) (front back : List ℕ) → is_without mark front ≡ true → position_or_len (λ b. eqb b mark) (front ++ mark ∷ back) ≡ length front
place mark [] back free = ap (λ e. cond (not e) (1 + position_or_len (λ b. eqb b mark) back) 0) (eq-eqb mark mark refl)
place mark (b ∷ bs) back free =
    let parts = and_parts (not (eqb b mark)) (is_without mark bs) free in
    cond-true (not (eqb b mark)) (1 + position_or_len (λ b. eqb b mark) (bs ++ mark ∷ back)) 0 parts.0 ∙ omega (arith, place mark bs back parts.1)

no_place : (mark : ℕ) (text : List ℕ) → is_without mark text ≡ true → position_or_len (λ b. eqb b mark) text ≡ length text
no_place mark [] free = refl
no_place mark (b ∷ bs) free =
    let parts = and_parts (not (eqb b mark)) (is_without mark bs) free in
    cond-true (not (eqb b mark)) (1 + position_or_len (λ b. eqb b mark) bs) 0 parts.0 ∙ omega (arith, no_place mark bs parts.1)

pub cut_again : (mark : ℕ) (front back : List ℕ) → is_without mark front ≡ true → cut mark (front ++ mark ∷ back) ≡ Some (front, back)
unfolding cut
cut_again mark front back free =
    let text : List ℕ = front ++ mark ∷ back in
    let at : position_or_len (λ b. eqb b mark) text ≡ length front = place mark front back free in
    let long : length text ≡ length front + length (mark ∷ back) = length-append front (mark ∷ back) in
    let within : ltb (position_or_len (λ b. eqb b mark) text) (length text) ≡ true = lt-ltb (position_or_len (λ b. eqb b mark) text) (length text) (omega arith) in
    cond-true (ltb (position_or_len (λ b. eqb b mark) text) (length text)) (Some (take (position_or_len (λ b. eqb b mark) text) text, drop (position_or_len (λ b. eqb b mark) text + 1) text)) None within
    ∙ ap (λ n. Some (take n text, drop (n + 1) text)) at
    ∙ ap (λ (x : List ℕ). Some (x, drop (length front + 1) text)) (take-append_seam front (mark ∷ back))
    ∙ ap (λ (y : List ℕ). Some (front, y)) (drop-append-add front (mark ∷ back) 1)

pub cut_none : (mark : ℕ) (text : List ℕ) → is_without mark text ≡ true → cut mark text ≡ None
unfolding cut
cut_none mark text free =
    let at : position_or_len (λ b. eqb b mark) text ≡ length text = no_place mark text free in
    cond-false (ltb (position_or_len (λ b. eqb b mark) text) (length text)) _ None (le-ltb (position_or_len (λ b. eqb b mark) text) (length text) (omega arith))

pub without_joined : (mark : ℕ) (xs ys : List ℕ) → is_without mark xs ≡ true → is_without mark ys ≡ true → is_without mark (xs ++ ys) ≡ true
without_joined mark [] ys hx hy = hy
without_joined mark (x ∷ xs) ys hx hy =
    let parts = and_parts (not (eqb x mark)) (is_without mark xs) hx in
    and_from (not (eqb x mark)) (is_without mark (xs ++ ys)) parts.0 (without_joined mark xs ys parts.1 hy)

other : (mark b : ℕ) → is_ascii_digit mark ≡ false → is_ascii_digit b ≡ true → not (eqb b mark) ≡ true
other mark b apart digit = go (eqb b mark) refl
  where
    go : (e : Bool) → eqb b mark ≡ e → not e ≡ true
    go true e = let same : is_ascii_digit b ≡ is_ascii_digit mark = ap is_ascii_digit (eqb-true b mark e) in absurd (cc)
    go false e = refl

-- a mark that is no digit is no byte of a number
pub digits_without : (mark : ℕ) (ds : List ℕ) → is_ascii_digit mark ≡ false → list_all is_ascii_digit ds ≡ true → is_without mark ds ≡ true
digits_without mark [] apart h = refl
digits_without mark (d ∷ ds) apart h =
    let parts = and_parts (is_ascii_digit d) (list_all is_ascii_digit ds) h in
    and_from (not (eqb d mark)) (is_without mark ds) (other mark d apart parts.0) (digits_without mark ds apart parts.1)
