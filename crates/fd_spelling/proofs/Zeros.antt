-- Zeros before and behind digits.
use Rattle.std.proofs.Common.{◌≡◌, ◌<◌, ◌≤◌, ◌+◌, ℕ, zero, suc, Bool, true, false, cond, not, replicate, length-append, List, [], ◌∷◌, ◌++◌, length, get_or, take, drop, eqb, refl, sym, ap, ◌∙◌, arith}
use Rattle.std.specs.Prelude.{◌&&◌, ◌^◌, ℤ, unsigned_abs}
use Rattle.std.specs.Int.{is_negative}
use Rattle.std.specs.Fmt.{decimal}
use Rattle.std.proofs.lemmas.Fmt.{length-decimal-le_wide}
use Rattle.std.proofs.lemmas.List.{length-take, length-drop, length-replicate}
use Rattle.std.specs.List.{list_all}
use Rattle.std.specs.Char.{is_ascii_digit}
use Rattle.std.proofs.lemmas.Bool.{cond-true, cond-false, eq-eqb, ne_eqb, and_parts, and_from}
use Rattle.std.proofs.lemmas.List.{at_drop_more, take_more}
use Rattle.fd_spelling.specs.Levels.{without_first_zeros, without_last_zeros, before_others, or_zero, with_point, is_zero, level_text, scaled_text}

-- a zero at the front is left out
pub first_zero : (w : List ℕ) (i : ℕ) → i < length w → get_or w i 0 ≡ 48 → without_first_zeros (drop i w) ≡ without_first_zeros (drop (i + 1) w)
first_zero w i within nought =
    at_drop_more without_first_zeros w i 0 within ∙ cond-true (eqb (get_or w i 0) 48) _ _ (eq-eqb _ _ nought)

-- another digit at the front stays, with all that follow
pub first_other : (w : List ℕ) (i : ℕ) → i < length w → (get_or w i 0 ≡ 48 → ⊥) → without_first_zeros (drop i w) ≡ drop i w
first_other w i within other =
    at_drop_more without_first_zeros w i 0 within ∙ cond-false (eqb (get_or w i 0) 48) _ (get_or w i 0 ∷ drop (i + 1) w) (ne_eqb _ _ other) ∙ sym (at_drop_more (λ (ds : List ℕ). ds) w i 0 within)

before_some : (x : ℕ) (xs : List ℕ) (b : ℕ) → before_others x (xs ++ b ∷ []) ≡ x ∷ (xs ++ b ∷ [])
before_some x [] b = refl
before_some x (y ∷ ys) b = refl

-- a digit behind others
pub last_push : (xs : List ℕ) (b : ℕ) → without_last_zeros (xs ++ b ∷ []) ≡ cond (eqb b 48) (without_last_zeros xs) (xs ++ b ∷ [])
last_push [] b = refl
last_push (x ∷ xs) b = ap (before_others x) (last_push xs b) ∙ go (eqb b 48)
  where
    go : (z : Bool) → before_others x (cond z (without_last_zeros xs) (xs ++ b ∷ [])) ≡ cond z (before_others x (without_last_zeros xs)) (x ∷ (xs ++ b ∷ []))
    go true = refl
    go false = before_some x xs b

-- a loop's step
pub last_zero : (f : List ℕ) (i end : ℕ) → i < length f → without_last_zeros (take i f) ≡ take end f → get_or f i 0 ≡ 48 → without_last_zeros (take (i + 1) f) ≡ take end f
last_zero f i end within so_far nought =
    ap without_last_zeros (take_more f i 0 within) ∙ last_push (take i f) (get_or f i 0) ∙ cond-true (eqb (get_or f i 0) 48) _ _ (eq-eqb _ _ nought) ∙ so_far

pub last_other : (f : List ℕ) (i : ℕ) → i < length f → (get_or f i 0 ≡ 48 → ⊥) → without_last_zeros (take (i + 1) f) ≡ take (i + 1) f
last_other f i within other =
    ap without_last_zeros (take_more f i 0 within) ∙ last_push (take i f) (get_or f i 0) ∙ cond-false (eqb (get_or f i 0) 48) _ (take i f ++ get_or f i 0 ∷ []) (ne_eqb _ _ other) ∙ sym (take_more f i 0 within)

-- what is left of digits are digits
pub first_digits : (w : List ℕ) → list_all is_ascii_digit w ≡ true → list_all is_ascii_digit (without_first_zeros w) ≡ true
first_digits [] h = refl
first_digits (b ∷ bs) h = go (eqb b 48) (first_digits bs (and_parts (is_ascii_digit b) (list_all is_ascii_digit bs) h).1)
  where
    go : (z : Bool) → list_all is_ascii_digit (without_first_zeros bs) ≡ true → list_all is_ascii_digit (cond z (without_first_zeros bs) (b ∷ bs)) ≡ true
    go true e = e
    go false e = h

before_digits : (b : ℕ) (ds : List ℕ) → is_ascii_digit b ≡ true → list_all is_ascii_digit ds ≡ true → list_all is_ascii_digit (before_others b ds) ≡ true
before_digits b [] e h = go (eqb b 48)
  where
    go : (z : Bool) → list_all is_ascii_digit (cond z [] (b ∷ [])) ≡ true
    go true = refl
    go false = and_from (is_ascii_digit b) true e refl
before_digits b (c ∷ cs) e h = and_from (is_ascii_digit b) (list_all is_ascii_digit (c ∷ cs)) e h

pub last_digits : (f : List ℕ) → list_all is_ascii_digit f ≡ true → list_all is_ascii_digit (without_last_zeros f) ≡ true
last_digits [] h = refl
last_digits (b ∷ bs) h =
    let parts = and_parts (is_ascii_digit b) (list_all is_ascii_digit bs) h in
    before_digits b (without_last_zeros bs) parts.0 (last_digits bs parts.1)

abbrev nil : List ℕ
nil = []

pub first_shorter : (w : List ℕ) → length (without_first_zeros w) ≤ length w
first_shorter [] = omega arith
first_shorter (b ∷ bs) = go (eqb b 48) (first_shorter bs)
  where
    go : (z : Bool) → length (without_first_zeros bs) ≤ length bs → length (cond z (without_first_zeros bs) (b ∷ bs)) ≤ length (b ∷ bs)
    go true h = omega arith
    go false h = omega arith

before_longer : (b : ℕ) (ds : List ℕ) → length (before_others b ds) ≤ length ds + 1
before_longer b [] = go (eqb b 48)
  where
    go : (z : Bool) → length (cond z nil (b ∷ nil)) ≤ 1
    go true = omega arith
    go false = omega arith
before_longer b (c ∷ cs) = omega arith

pub last_shorter : (f : List ℕ) → length (without_last_zeros f) ≤ length f
last_shorter [] = omega arith
last_shorter (b ∷ bs) = omega (arith, last_shorter bs, before_longer b (without_last_zeros bs))

or_zero_longer : (w : List ℕ) → length (or_zero w) ≤ length w + 1
or_zero_longer [] = omega arith
or_zero_longer (b ∷ bs) = omega arith

pub point_longer : (f : List ℕ) → length (with_point f) ≤ length f + 1
point_longer [] = omega arith
point_longer (b ∷ bs) = omega arith

sign_shorter : (z : Bool) → length (cond z (45 ∷ nil) nil) ≤ 1
sign_shorter true = omega arith
sign_shorter false = omega arith

-- a decimal's text is hardly longer than its digits
pub level_shorter : (negative : Bool) (w f : List ℕ) → length (level_text negative w f) ≤ length w + length f + 3
unfolding level_text
level_shorter negative w f =
    let sign = cond (negative && not (is_zero w && is_zero f)) (45 ∷ nil) nil in
    let whole = or_zero (without_first_zeros w) in
    let fraction = with_point (without_last_zeros f) in
    let all : length ((sign ++ whole) ++ fraction) ≡ length (sign ++ whole) + length fraction = length-append (sign ++ whole) fraction in
    let front : length (sign ++ whole) ≡ length sign + length whole = length-append sign whole in
    omega (arith, all, front, sign_shorter (negative && not (is_zero w && is_zero f)), or_zero_longer (without_first_zeros w), first_shorter w, point_longer (without_last_zeros f), last_shorter f)

-- parts of digits, and digits behind digits, are digits
pub digits_joined : (xs ys : List ℕ) → list_all is_ascii_digit xs ≡ true → list_all is_ascii_digit ys ≡ true → list_all is_ascii_digit (xs ++ ys) ≡ true
digits_joined [] ys hx hy = hy
digits_joined (x ∷ xs) ys hx hy =
    let parts = and_parts (is_ascii_digit x) (list_all is_ascii_digit xs) hx in
    and_from (is_ascii_digit x) (list_all is_ascii_digit (xs ++ ys)) parts.0 (digits_joined xs ys parts.1 hy)

pub digits_taken : (n : ℕ) (xs : List ℕ) → list_all is_ascii_digit xs ≡ true → list_all is_ascii_digit (take n xs) ≡ true
digits_taken zero xs h = refl
digits_taken (suc n) [] h = refl
digits_taken (suc n) (x ∷ xs) h =
    let parts = and_parts (is_ascii_digit x) (list_all is_ascii_digit xs) h in
    and_from (is_ascii_digit x) (list_all is_ascii_digit (take n xs)) parts.0 (digits_taken n xs parts.1)

pub digits_dropped : (n : ℕ) (xs : List ℕ) → list_all is_ascii_digit xs ≡ true → list_all is_ascii_digit (drop n xs) ≡ true
digits_dropped zero xs h = h
digits_dropped (suc n) [] h = refl
digits_dropped (suc n) (x ∷ xs) h = digits_dropped n xs (and_parts (is_ascii_digit x) (list_all is_ascii_digit xs) h).1

pub digits_of_zeros : (n : ℕ) → list_all is_ascii_digit (replicate n 48) ≡ true
digits_of_zeros zero = refl
digits_of_zeros (suc n) = digits_of_zeros n

abbrev moved : Bool → List ℕ → List ℕ → List ℕ × List ℕ
moved enlarges digits zeros =
    cond enlarges (digits ++ zeros, []) (take (length digits) (zeros ++ digits), drop (length digits) (zeros ++ digits))

moved_shorter : (enlarges negative : Bool) (digits zeros : List ℕ) → length digits ≤ 20 → length zeros < 256
    → length (level_text negative (moved enlarges digits zeros).0 (moved enlarges digits zeros).1) ≤ 300
moved_shorter true negative digits zeros few some =
    omega (arith, level_shorter negative (digits ++ zeros) [], length-append digits zeros)
moved_shorter false negative digits zeros few some =
    omega (arith, level_shorter negative (take (length digits) (zeros ++ digits)) (drop (length digits) (zeros ++ digits)), length-append zeros digits, length-take (length digits) (zeros ++ digits), length-drop (length digits) (zeros ++ digits))

-- so is that of a scaled value
pub scaled_shorter : (factor value : ℤ) → unsigned_abs factor < 256 → unsigned_abs value < 2 ^ 64 → length (scaled_text factor value) ≤ 300
unfolding scaled_text
scaled_shorter factor value small fits =
    let few : length (decimal (unsigned_abs value)) ≤ 20 = length-decimal-le_wide 20 (unsigned_abs value) (omega arith) (omega arith) (omega arith) in
    let some : length (replicate (unsigned_abs factor) 48) < 256 = rw length-replicate small in
    moved_shorter (is_negative factor) (is_negative value) (decimal (unsigned_abs value)) (replicate (unsigned_abs factor) 48) few some
