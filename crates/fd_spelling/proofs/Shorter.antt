-- A number and a step in their one spelling are no longer than the texts that they were read from.
use Rattle.std.proofs.Common.{◌≡◌, ◌<◌, ◌≤◌, ◌+◌, ◌*◌, ◌/◌, ◌%◌, ◌^◌, ℕ, Bool, true, false, cond, List, [], ◌∷◌, ◌++◌, length, take, drop, eqb, ltb, leb, Some, None, refl, ap, subst, length-append, arith}
use Rattle.std.specs.Prelude.{◌&&◌, codes, option_map}
use Rattle.std.specs.List.{list_all}
use Rattle.std.specs.Char.{is_ascii_digit}
use Rattle.std.specs.Str.Parse.{digits_value}
use Rattle.std.specs.Fmt.{decimal}
use Rattle.std.proofs.lemmas.Bool.{and_parts, leb-true, ltb-true, eqb-false}
use Rattle.std.proofs.lemmas.List.{length-take-le, length-drop}
use Rattle.std.proofs.lemmas.Fmt.{length-decimal-le_wide}
use Rattle.std.proofs.lemmas.Str.Parse.{digits_value_short}
use Rattle.fd_spelling.specs.Numerals.{is_numeral, number_up_to, digit_count}
use Rattle.fd_spelling.specs.Steps.{unit_seconds, seconds_text, magnitude_text, step_text, without_seconds, unit_of, unsigned_step}
use Rattle.fd_spelling.proofs.Digits.{numerals, front_digits, count_within}
use Rattle.fd_spelling.proofs.Again.{map_some, when_some, choice_some}
use Rattle.fd_spelling.proofs.AgainSteps.{hours_text, numbered}

pub number_shorter : (most n : ℕ) (text : List ℕ) → most < 2 ^ 32 → number_up_to most text ≡ Some n → length (decimal n) ≤ length text
unfolding number_up_to
number_shorter most n text small h =
    let c = choice_some (is_numeral text && leb (digits_value 10 text) most) (digits_value 10 text) n h in
    let parts = and_parts (is_numeral text) (leb (digits_value 10 text) most) c.0 in
    let numeral = and_parts (ltb 0 (length text)) (list_all is_ascii_digit text) parts.0 in
    let within : digits_value 10 text ≤ most = leb-true (digits_value 10 text) most parts.1 in
    let few : digits_value 10 text < 10 ^ length text = digits_value_short numerals text (length text) numeral.1 (omega arith) in
    let some : 0 < length text = ltb-true 0 (length text) numeral.0 in
    length-decimal-le_wide (length text) n some (subst (λ m. m < 10 ^ length text) c.1 few) (omega (arith, within, c.1, small))

-- how long a number up to another one is
no_longer : (m n k : ℕ) → m ≤ n → n < 10 ^ k → n < 10 ^ 15 → 0 < k → length (decimal m) ≤ k
no_longer m n k le few small some = length-decimal-le_wide k m some (omega arith) (omega arith)

-- seconds, of which neither hours nor minutes nor those that are no whole minutes are more than this number
seconds_most : (s n k : ℕ) → s / 3600 ≤ n → s / 60 ≤ n → (eqb (s % 60) 0 ≡ false → s ≤ n) → n < 10 ^ k → n < 10 ^ 15 → 0 < k → length (seconds_text s) ≤ k + 1
seconds_most s n k h m rest few small some = go (eqb (s % 3600) 0) (eqb (s % 60) 0) refl
  where
    go : (x y : Bool) → eqb (s % 60) 0 ≡ y → length (cond x (decimal (s / 3600)) (cond y (decimal (s / 60) ++ codes "m") (decimal s ++ codes "s"))) ≤ k + 1
    go true y e = omega (arith, no_longer (s / 3600) n k h few small some)
    go false true e = omega (arith, length-append (decimal (s / 60)) (codes "m"), no_longer (s / 60) n k m few small some)
    go false false e = omega (arith, length-append (decimal s) (codes "s"), no_longer s n k (rest e) few small some)

-- how long a unit's text is at least
data IsLong : ℕ → ℕ → Type 0 where
  Hours : (n : ℕ) → IsLong n 1
  Minutes : (n : ℕ) → 1 ≤ n → IsLong n 0
  Seconds : (n : ℕ) → 1 ≤ n → IsLong n 13
  Numbered : (n unit : ℕ) → unit_seconds unit ≡ None → length (decimal unit) + 1 ≤ n → IsLong n unit

unit_long : (text : List ℕ) (unit : ℕ) → unit_of text ≡ Some unit → IsLong (length text) unit
unfolding unit_of
unit_long [] unit h = let same : 1 ≡ unit = cc in subst (λ u. IsLong 0 u) same (Hours 0)
unit_long (b ∷ bs) unit h = go (eqb b 117) (eqb b 109 && eqb (length bs) 0) (eqb b 115 && eqb (length bs) 0) h
  where
    long : ℕ
    long = length (b ∷ bs)

    go : (x y z : Bool) → cond x (without_seconds (number_up_to 255 bs)) (cond y (Some 0) (cond z (Some 13) None)) ≡ Some unit → IsLong long unit
    go true y z e = let n = numbered (number_up_to 255 bs) unit e in Numbered long unit n.1 (omega (arith, number_shorter 255 unit bs (omega arith) n.0))
    go false true z e = let same : 0 ≡ unit = cc in subst (λ u. IsLong long u) same (Minutes long (omega arith))
    go false false true e = let same : 13 ≡ unit = cc in subst (λ u. IsLong long u) same (Seconds long (omega arith))
    go false false false e = absurd (cc)

minutes_whole : (n : ℕ) → eqb (n * 60 % 60) 0 ≡ false → n * 60 ≤ n
minutes_whole n e = absurd (eqb-false (n * 60 % 60) 0 e (omega arith))

with_unit : (n k long unit : ℕ) → n < 10 ^ k → n < 10 ^ 15 → 0 < k → IsLong long unit → length (step_text false n unit) ≤ k + long
unfolding step_text
with_unit n k long unit few small some (Hours l) = omega (arith, ap length (hours_text n), no_longer n n k (omega arith) few small some)
with_unit n k long unit few small some (Minutes l one) =
    let m = seconds_most (n * 60) n k (omega arith) (omega arith) (minutes_whole n) few small some in
    omega (arith, m, one)
with_unit n k long unit few small some (Seconds l one) =
    let m = seconds_most (n * 1) n k (omega arith) (omega arith) (λ e. omega arith) few small some in
    omega (arith, m, one)
with_unit n k long unit few small some (Numbered l u none more) =
    let text : length (magnitude_text n u (unit_seconds u)) ≡ length ((decimal n ++ codes "u") ++ decimal u) = ap (λ o. length (magnitude_text n u o)) none in
    omega (arith, text, length-append (decimal n ++ codes "u") (decimal u), length-append (decimal n) (codes "u"), no_longer n n k (omega arith) few small some, more)

pub step_shorter : (given text : List ℕ) → unsigned_step false given ≡ Some text → length text ≤ length given
unfolding unsigned_step
step_shorter given text h =
    let count : ℕ = digit_count given in
    let ds : List ℕ = take count given in
    let w = when_some (leb 1 count && leb count 15) (option_map (step_text false (digits_value 10 ds)) (unit_of (drop count given))) text h in
    let m = map_some (step_text false (digits_value 10 ds)) (unit_of (drop count given)) text w.1 in
    let both = and_parts (leb 1 count) (leb count 15) w.0 in
    let some : 1 ≤ count = leb-true 1 count both.0 in
    let short : count ≤ 15 = leb-true count 15 both.1 in
    let within : count ≤ length given = count_within given in
    let long : length ds ≡ count = length-take-le count given within in
    let few : digits_value 10 ds < 10 ^ count = digits_value_short numerals ds count (front_digits given) (omega arith) in
    let small : digits_value 10 ds < 10 ^ 15 = digits_value_short numerals ds 15 (front_digits given) (omega arith) in
    let most = with_unit (digits_value 10 ds) count (length (drop count given)) m.0 few small (omega arith) (unit_long (drop count given) m.0 m.1) in
    omega (arith, most, ap length m.2, length-drop count given, within)
