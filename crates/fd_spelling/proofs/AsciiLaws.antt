-- Names, values and digits are ASCII.
use Rattle.std.proofs.Common.{◌≡◌, ◌<◌, ℕ, Bool, true, ltb, leb, List, [], ◌∷◌, length, refl, arith}
use Rattle.std.specs.Prelude.{◌&&◌}
use Rattle.std.specs.List.{list_all}
use Rattle.std.specs.Char.{is_ascii_digit}
use Rattle.std.proofs.lemmas.Bool.{and_parts, and_from, leb-true, lt-ltb}
use Rattle.std.proofs.lemmas.Bool.Decides.{nat_tests}
use Rattle.fd_spelling.specs.Names.{is_ascii, is_letter, is_digit, is_name_byte, is_value_byte, is_name, is_value}

-- what passes a test of ASCII bytes is ASCII
all_ascii : (p : ℕ → Bool) → ((b : ℕ) → p b ≡ true → is_ascii b ≡ true) → (bs : List ℕ) → list_all p bs ≡ true → list_all is_ascii bs ≡ true
all_ascii p each [] h = refl
all_ascii p each (b ∷ bs) h =
    let parts = and_parts (p b) (list_all p bs) h in
    and_from (is_ascii b) (list_all is_ascii bs) (each b parts.0) (all_ascii p each bs parts.1)

letter_below : (b : ℕ) → is_letter b ≡ true → b < 128
letter_below b h = let parts = and_parts (leb 97 b) (leb b 122) h in omega (arith, leb-true b 122 parts.1)

digit_below : (b : ℕ) → is_digit b ≡ true → b < 128
digit_below b h = let parts = and_parts (leb 48 b) (leb b 57) h in omega (arith, leb-true b 57 parts.1)

name_byte_below : (b : ℕ) → is_name_byte b ≡ true → is_ascii b ≡ true
name_byte_below b h = lt-ltb b 128 (grind (arith, nat_tests))

value_byte_below : (b : ℕ) → is_value_byte b ≡ true → is_ascii b ≡ true
value_byte_below b h = lt-ltb b 128 (grind (arith, nat_tests))

digit_is_ascii : (b : ℕ) → is_ascii_digit b ≡ true → is_ascii b ≡ true
digit_is_ascii b h = lt-ltb b 128 (grind (arith, nat_tests))

-- names, values and digits are ASCII
pub name_is_ascii : (text : List ℕ) → is_name text ≡ true → list_all is_ascii text ≡ true
name_is_ascii [] h = refl
name_is_ascii (b ∷ bs) h =
    let parts = and_parts (is_letter b && leb (length bs) 15) (list_all is_name_byte bs) h in
    let first = and_parts (is_letter b) (leb (length bs) 15) parts.0 in
    and_from (is_ascii b) (list_all is_ascii bs) (lt-ltb b 128 (letter_below b first.0)) (all_ascii is_name_byte name_byte_below bs parts.1)

pub value_is_ascii : (text : List ℕ) → is_value text ≡ true → list_all is_ascii text ≡ true
value_is_ascii text h =
    all_ascii is_value_byte value_byte_below text (and_parts (ltb 0 (length text) && leb (length text) 255) (list_all is_value_byte text) h).1

pub digits_are_ascii : (text : List ℕ) → list_all is_ascii_digit text ≡ true → list_all is_ascii text ≡ true
digits_are_ascii text h = all_ascii is_ascii_digit digit_is_ascii text h
