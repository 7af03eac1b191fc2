-- Texts of digits, and the numbers that they write.
use Rattle.std.proofs.Common.{◌≡◌, ◌<◌, ◌≤◌, ◌+◌, ◌*◌, ◌^◌, ℕ, suc, Bool, true, false, cond, not, List, [], ◌∷◌, ◌++◌, length, get_or, take, drop, eqb, leb, Some, None, refl, sym, rules, arith}
use Rattle.std.specs.List.{list_all, position_or_len}
use Rattle.std.specs.Char.{is_ascii_digit, digit_value}
use Rattle.std.specs.Str.Parse.{digits_value}
use Rattle.std.proofs.lemmas.Bool.{cond-true, cond-false, lt-ltb, lt-leb}
use Rattle.std.proofs.lemmas.List.{drop-drop}
use Rattle.std.proofs.lemmas.List.Sums.{prefix_len-le-length}
use Rattle.std.proofs.lemmas.Int.Digits.{digits_value_more}
use Rattle.std.proofs.lemmas.Str.Parse.{IsNumeralModel, numerals_by_value, digits_value_short, digits_value-take-le}
use Rattle.std.specs.Fmt.{decimal}
use Rattle.std.proofs.lemmas.Fmt.{length-decimal-le_wide}
use Rattle.std.specs.Prelude.{codes}
use Rattle.std.proofs.lemmas.List.{length-append}
use Rattle.fd_spelling.specs.Numerals.{cut, digit_count}
use Rattle.fd_spelling.specs.Canonical.{param_text}

-- digits and their number, in std's words
pub numerals : IsNumeralModel (λ ds. list_all is_ascii_digit ds ≡ true) (digits_value 10)
numerals = numerals_by_value _ (search rules)

-- a front of at most 15 digits writes a number of at most 15 digits
pub front_fits : (ds : List ℕ) (i : ℕ) → list_all is_ascii_digit ds ≡ true → length ds ≤ 15 → digits_value 10 (take i ds) < 10 ^ 15
front_fits ds i digits few =
    let whole : digits_value 10 ds < 10 ^ 15 = digits_value_short numerals ds 15 digits few in
    let part : digits_value 10 (take i ds) ≤ digits_value 10 ds = digits_value-take-le 10 ds i (omega arith) in
    omega arith

-- a loop's step: one digit more
pub one_more : (ds : List ℕ) (i n d : ℕ) → i < length ds → n ≡ digits_value 10 (take i ds) → d ≡ digit_value (get_or ds i 0) → n * 10 + d ≡ digits_value 10 (take (i + 1) ds)
one_more ds i n d within number digit = rw (number, digit) (sym (digits_value_more 10 ds i within))

-- no number that large
pub too_large : (ds : List ℕ) (i most : ℕ) → most < digits_value 10 (take i ds) → None ≡ cond (leb (digits_value 10 ds) most) (Some (digits_value 10 ds)) None
too_large ds i most over =
    let part : digits_value 10 (take i ds) ≤ digits_value 10 ds = digits_value-take-le 10 ds i (omega arith) in
    sym (cond-false (leb (digits_value 10 ds) most) (Some (digits_value 10 ds)) None (lt-leb _ _ (omega arith)))

-- the text cut where the mark stands first
pub cut_at : (mark : ℕ) (text : List ℕ) (at : ℕ) → at ≡ position_or_len (λ b. eqb b mark) text → at < length text → Some (take at text, drop 1 (drop at text)) ≡ cut mark text
unfolding cut
cut_at mark text at e within =
    let inside : position_or_len (λ b. eqb b mark) text < length text = omega arith in
    rw (e, drop-drop) (sym (cond-true _ _ _ (lt-ltb _ _ inside)))

pub count_within : (text : List ℕ) → digit_count text ≤ length text
count_within text = prefix_len-le-length (λ b. not (not (is_ascii_digit b))) text

-- the digits that a text begins with are digits
pub front_digits : (text : List ℕ) → list_all is_ascii_digit (take (digit_count text) text) ≡ true
front_digits [] = refl
front_digits (b ∷ bs) = go (is_ascii_digit b) refl (front_digits bs)
  where
    go : (d : Bool) → is_ascii_digit b ≡ d → list_all is_ascii_digit (take (digit_count bs) bs) ≡ true → list_all is_ascii_digit (take (cond (not (not d)) (1 + digit_count bs) 0) (b ∷ bs)) ≡ true
    go true e h = let one : 1 + digit_count bs ≡ suc (digit_count bs) = omega arith in rw (one, e) h
    go false e h = refl

-- how long a number below 10 ^ k is
pub short_number : (k n : ℕ) (text : List ℕ) → text ≡ decimal n → 0 < k → n < 10 ^ k → n < 10 ^ 64 → length text ≤ k
short_number k n text e some small few = rw e (length-decimal-le_wide k n some small few)

decimal_fits : (k n : ℕ) → 0 < k → n < 10 ^ k → n < 10 ^ 64 → length (decimal n) ≤ k
decimal_fits k n some small few = length-decimal-le_wide k n some small few

-- how long the text of a parameter is
pub short_param : (d c n : ℕ) (text : List ℕ) → text ≡ param_text d c n → d < 2 ^ 8 → c < 2 ^ 8 → n < 2 ^ 8 → length text ≤ 32
short_param d c n text e ds cs ns =
    let front : length ((((decimal d ++ codes ".") ++ decimal c) ++ codes ".") ++ decimal n) ≡ length (((decimal d ++ codes ".") ++ decimal c) ++ codes ".") + length (decimal n) = length-append (((decimal d ++ codes ".") ++ decimal c) ++ codes ".") (decimal n) in
    let second : length (((decimal d ++ codes ".") ++ decimal c) ++ codes ".") ≡ length ((decimal d ++ codes ".") ++ decimal c) + 1 = length-append ((decimal d ++ codes ".") ++ decimal c) (codes ".") in
    let third : length ((decimal d ++ codes ".") ++ decimal c) ≡ length (decimal d ++ codes ".") + length (decimal c) = length-append (decimal d ++ codes ".") (decimal c) in
    let fourth : length (decimal d ++ codes ".") ≡ length (decimal d) + 1 = length-append (decimal d) (codes ".") in
    let one : length (decimal d) ≤ 3 = decimal_fits 3 d (omega arith) (omega arith) (omega arith) in
    let two : length (decimal c) ≤ 3 = decimal_fits 3 c (omega arith) (omega arith) (omega arith) in
    let three : length (decimal n) ≤ 3 = decimal_fits 3 n (omega arith) (omega arith) (omega arith) in
    rw e (omega arith)

-- how long a number with a letter behind it is
pub short_with_letter : (k n b : ℕ) (text : List ℕ) → text ≡ decimal n ++ b ∷ [] → 0 < k → n < 10 ^ k → n < 10 ^ 64 → length text ≤ k + 1
short_with_letter k n b text e some small few =
    let one : length (decimal n) ≤ k = decimal_fits k n some small few in
    let all : length (decimal n ++ b ∷ []) ≡ length (decimal n) + 1 = length-append (decimal n) (b ∷ []) in
    rw e (omega arith)

-- how long a number of a numbered unit is
pub short_with_unit : (n u : ℕ) (text : List ℕ) → text ≡ decimal n ++ codes "u" ++ decimal u → n < 2 ^ 52 → u < 2 ^ 8 → length text ≤ 23
short_with_unit n u text e small few =
    let one : length (decimal n) ≤ 16 = decimal_fits 16 n (omega arith) (omega arith) (omega arith) in
    let two : length (decimal u) ≤ 3 = decimal_fits 3 u (omega arith) (omega arith) (omega arith) in
    let front : length (decimal n ++ codes "u") ≡ length (decimal n) + 1 = length-append (decimal n) (codes "u") in
    let all : length ((decimal n ++ codes "u") ++ decimal u) ≡ length (decimal n ++ codes "u") + length (decimal u) = length-append (decimal n ++ codes "u") (decimal u) in
    rw e (omega arith)

-- how long two numbers up to 255 with `-` between them are
pub short_two : (n u : ℕ) (text : List ℕ) → text ≡ decimal n ++ codes "-" ++ decimal u → n < 2 ^ 8 → u < 2 ^ 8 → length text ≤ 32
short_two n u text e small few =
    let one : length (decimal n) ≤ 3 = decimal_fits 3 n (omega arith) (omega arith) (omega arith) in
    let two : length (decimal u) ≤ 3 = decimal_fits 3 u (omega arith) (omega arith) (omega arith) in
    let front : length (decimal n ++ codes "-") ≡ length (decimal n) + 1 = length-append (decimal n) (codes "-") in
    let all : length ((decimal n ++ codes "-") ++ decimal u) ≡ length (decimal n ++ codes "-") + length (decimal u) = length-append (decimal n ++ codes "-") (decimal u) in
    rw e (omega arith)
