-- Spelled texts are values: 1 to 255 letters, digits, `.`, `_`, `-` and `+`.
use Rattle.std.proofs.Common.{◌≡◌, ◌<◌, ◌≤◌, ◌+◌, ◌/◌, ◌%◌, ◌*◌, ◌^◌, ◌∙◌, ℕ, Bool, true, false, cond, not, List, [], ◌∷◌, ◌++◌, length, eqb, ltb, leb, Option, Some, None, refl, ap, arith, length-append}
use Rattle.std.specs.Prelude.{◌&&◌, codes, IfSome}
use Rattle.std.proofs.Common.{subst}
use Rattle.std.proofs.Math.Nat.{mul-le-mul_left}
use Rattle.fd_spelling.specs.Numerals.{is_numeral}
use Rattle.std.specs.List.{list_all}
use Rattle.std.specs.Char.{is_ascii_digit}
use Rattle.std.specs.Fmt.{decimal}
use Rattle.std.proofs.lemmas.Bool.{and_parts, and_from, lt-ltb, le-leb, ltb-true, leb-true}
use Rattle.std.proofs.lemmas.Bool.Decides.{nat_tests}
use Rattle.std.proofs.lemmas.Fmt.{decimal_is_IsNumeral_wide, length-decimal-le_wide}
use Rattle.fd_spelling.specs.Names.{is_value_byte, is_value}
use Rattle.fd_spelling.specs.Civil.{two_digits, date_text, time_text}
use Rattle.fd_spelling.specs.Steps.{unit_seconds, sign_text, seconds_text, magnitude_text, step_text}
use Rattle.fd_spelling.specs.Levels.{levtype_text, without_first_zeros, without_last_zeros, or_zero, with_point, is_zero, level_text, levels_text, IsDecimal}
use Rattle.fd_spelling.specs.Canonical.{param_text}
use Rattle.fd_spelling.proofs.Digits.{numerals}
use Rattle.fd_spelling.proofs.Zeros.{first_digits, last_digits, first_shorter, last_shorter, point_longer}

-- bytes of values
abbrev pub are_values : List ℕ → Bool
are_values bytes = list_all is_value_byte bytes

pub value_from : (text : List ℕ) → are_values text ≡ true → 0 < length text → length text ≤ 255 → is_value text ≡ true
value_from text bytes some few =
    and_from (ltb 0 (length text) && leb (length text) 255) (are_values text)
    (and_from (ltb 0 (length text)) (leb (length text) 255) (lt-ltb 0 (length text) some) (le-leb (length text) 255 few)) bytes

-- what a value has
pub value_few : (text : List ℕ) → is_value text ≡ true → length text ≤ 255
value_few text h = leb-true (length text) 255 (and_parts (ltb 0 (length text)) (leb (length text) 255) (and_parts (ltb 0 (length text) && leb (length text) 255) (are_values text) h).0).1

pub joined : (xs ys : List ℕ) → are_values xs ≡ true → are_values ys ≡ true → are_values (xs ++ ys) ≡ true
joined [] ys hx hy = hy
joined (x ∷ xs) ys hx hy =
    let parts = and_parts (is_value_byte x) (are_values xs) hx in
    and_from (is_value_byte x) (are_values (xs ++ ys)) parts.0 (joined xs ys parts.1 hy)

digit_is_value : (b : ℕ) → is_ascii_digit b ≡ true → is_value_byte b ≡ true
digit_is_value b h = grind (arith, nat_tests)

pub digits_are_values : (ds : List ℕ) → list_all is_ascii_digit ds ≡ true → are_values ds ≡ true
digits_are_values [] h = refl
digits_are_values (d ∷ ds) h =
    let parts = and_parts (is_ascii_digit d) (list_all is_ascii_digit ds) h in
    and_from (is_value_byte d) (are_values ds) (digit_is_value d parts.0) (digits_are_values ds parts.1)

-- the digits of a number
pub decimal_bytes : (n : ℕ) → n < 10 ^ 64 → are_values (decimal n) ≡ true
decimal_bytes n few = digits_are_values (decimal n) (numerals.from (decimal n) (decimal_is_IsNumeral_wide n few).0.1)

pub decimal_some : (n : ℕ) → n < 10 ^ 64 → 0 < length (decimal n)
decimal_some n few = (decimal_is_IsNumeral_wide n few).0.0

pub number_is_value : (n : ℕ) → n < 2 ^ 32 → is_value (decimal n) ≡ true
number_is_value n small =
    let few : length (decimal n) ≤ 10 = length-decimal-le_wide 10 n (omega arith) (omega arith) (omega arith) in
    value_from (decimal n) (decimal_bytes n (omega arith)) (decimal_some n (omega arith)) (omega arith)

-- a number, a mark and a text
marked : (n mark : ℕ) (text : List ℕ) → n < 10 ^ 64 → is_value_byte mark ≡ true → are_values text ≡ true → are_values ((decimal n ++ mark ∷ []) ++ text) ≡ true
marked n mark text few m t = joined (decimal n ++ mark ∷ []) text (joined (decimal n) (mark ∷ []) (decimal_bytes n few) (and_from (is_value_byte mark) true m refl)) t

pub param_is_value : (d c n : ℕ) → d < 2 ^ 8 → c < 2 ^ 8 → n < 2 ^ 8 → length (param_text d c n) ≤ 32 → is_value (param_text d c n) ≡ true
param_is_value d c n ds cs ns short =
    let front : are_values ((decimal d ++ codes ".") ++ decimal c) ≡ true = marked d 46 (decimal c) (omega arith) refl (decimal_bytes c (omega arith)) in
    let bytes : are_values (param_text d c n) ≡ true =
    joined (((decimal d ++ codes ".") ++ decimal c) ++ codes ".") (decimal n) (joined ((decimal d ++ codes ".") ++ decimal c) (codes ".") front refl) (decimal_bytes n (omega arith)) in
    let all : length (param_text d c n) ≡ length (((decimal d ++ codes ".") ++ decimal c) ++ codes ".") + length (decimal n) = length-append (((decimal d ++ codes ".") ++ decimal c) ++ codes ".") (decimal n) in
    value_from (param_text d c n) bytes (omega (arith, all, decimal_some n (omega arith))) (omega arith)

pub levtype_is_value : (t u : ℕ) → t < 2 ^ 8 → u < 2 ^ 8 → length (levtype_text t u) ≤ 32 → is_value (levtype_text t u) ≡ true
unfolding levtype_text
levtype_is_value t u ts us short = go (eqb u 255) short
  where
    go : (b : Bool) → length (cond b (decimal t) ((decimal t ++ codes "-") ++ decimal u)) ≤ 32 → is_value (cond b (decimal t) ((decimal t ++ codes "-") ++ decimal u)) ≡ true
    go true s = number_is_value t (omega arith)
    go false s =
        value_from ((decimal t ++ codes "-") ++ decimal u) (marked t 45 (decimal u) (omega arith) refl (decimal_bytes u (omega arith)))
        (omega (arith, length-append (decimal t ++ codes "-") (decimal u), decimal_some u (omega arith))) (omega arith)

digit_byte : (x : ℕ) → x < 10 → is_value_byte (48 + x) ≡ true
digit_byte x small = digit_is_value (48 + x) (and_from (leb 48 (48 + x)) (leb (48 + x) 57) (le-leb 48 (48 + x) (omega arith)) (le-leb (48 + x) 57 (omega arith)))

two_bytes : (n : ℕ) → are_values (two_digits n) ≡ true
two_bytes n =
    and_from (is_value_byte (48 + n / 10 % 10)) (is_value_byte (48 + n % 10) && true) (digit_byte (n / 10 % 10) (omega arith))
    (and_from (is_value_byte (48 + n % 10)) true (digit_byte (n % 10) (omega arith)) refl)

pub date_is_value : (y m d : ℕ) → is_value (date_text y m d) ≡ true
unfolding date_text
date_is_value y m d =
    let bytes : are_values (((two_digits (y / 100) ++ two_digits y) ++ two_digits m) ++ two_digits d) ≡ true =
    joined ((two_digits (y / 100) ++ two_digits y) ++ two_digits m) (two_digits d) (joined (two_digits (y / 100) ++ two_digits y) (two_digits m) (joined (two_digits (y / 100)) (two_digits y) (two_bytes (y / 100)) (two_bytes y)) (two_bytes m)) (two_bytes d) in
    bytes

pub time_is_value : (h m s : ℕ) → is_value (time_text h m s) ≡ true
unfolding time_text
time_is_value h m s = go (eqb s 0)
  where
    go : (b : Bool) → is_value ((two_digits h ++ two_digits m) ++ cond b [] (two_digits s)) ≡ true
    go true = joined (two_digits h ++ two_digits m) [] (joined (two_digits h) (two_digits m) (two_bytes h) (two_bytes m)) refl
    go false = joined (two_digits h ++ two_digits m) (two_digits s) (joined (two_digits h) (two_digits m) (two_bytes h) (two_bytes m)) (two_bytes s)

seconds_bytes : (s : ℕ) → s < 10 ^ 22 → (are_values (seconds_text s) ≡ true) × (0 < length (seconds_text s))
seconds_bytes s few = go (eqb (s % 3600) 0) (eqb (s % 60) 0)
  where
    go : (a b : Bool) → let t = cond a (decimal (s / 3600)) (cond b (decimal (s / 60) ++ codes "m") (decimal s ++ codes "s")) in (are_values t ≡ true) × (0 < length t)
    go true b = (decimal_bytes (s / 3600) (omega arith), decimal_some (s / 3600) (omega arith))
    go false true = (
      joined (decimal (s / 60)) (codes "m") (decimal_bytes (s / 60) (omega arith)) refl,
      omega (arith, length-append (decimal (s / 60)) (codes "m"), decimal_some (s / 60) (omega arith)),
    )
    go false false = (
      joined (decimal s) (codes "s") (decimal_bytes s (omega arith)) refl,
      omega (arith, length-append (decimal s) (codes "s"), decimal_some s (omega arith)),
    )

magnitude_bytes : (n unit : ℕ) (o : Option ℕ) → n < 2 ^ 52 → unit < 2 ^ 8 → ((s : ℕ) → o ≡ Some s → n * s < 10 ^ 22) → (are_values (magnitude_text n unit o) ≡ true) × (0 < length (magnitude_text n unit o))
magnitude_bytes n unit None small few bound = (
  marked n 117 (decimal unit) (omega arith) refl (decimal_bytes unit (omega arith)),
  omega (arith, length-append (decimal n ++ codes "u") (decimal unit), decimal_some unit (omega arith)),
)
magnitude_bytes n unit (Some s) small few bound = seconds_bytes (n * s) (bound s refl)

sign_bytes : (b : Bool) → are_values (cond b (45 ∷ []) []) ≡ true
sign_bytes true = refl
sign_bytes false = refl

pub step_is_value : (negative : Bool) (n unit : ℕ) → n < 2 ^ 52 → unit < 2 ^ 8 → ((s : ℕ) → unit_seconds unit ≡ Some s → n * s < 10 ^ 22) → length (step_text negative n unit) ≤ 24 → is_value (step_text negative n unit) ≡ true
unfolding step_text
step_is_value negative n unit small few bound short =
    let m = magnitude_bytes n unit (unit_seconds unit) small few bound in
    let all : length (sign_text negative n ++ magnitude_text n unit (unit_seconds unit)) ≡ length (sign_text negative n) + length (magnitude_text n unit (unit_seconds unit)) = length-append (sign_text negative n) (magnitude_text n unit (unit_seconds unit)) in
    value_from (sign_text negative n ++ magnitude_text n unit (unit_seconds unit)) (joined (sign_text negative n) (magnitude_text n unit (unit_seconds unit)) (sign_bytes (negative && ltb 0 n)) m.0)
    (omega (arith, all, m.1)) (omega arith)

or_zero_bytes : (ds : List ℕ) → are_values ds ≡ true → are_values (or_zero ds) ≡ true
or_zero_bytes [] h = refl
or_zero_bytes (d ∷ ds) h = h

point_bytes : (ds : List ℕ) → are_values ds ≡ true → are_values (with_point ds) ≡ true
point_bytes [] h = refl
point_bytes (d ∷ ds) h = h

-- the bytes of a decimal
pub level_bytes : (negative : Bool) (w f : List ℕ) → list_all is_ascii_digit w ≡ true → list_all is_ascii_digit f ≡ true → are_values (level_text negative w f) ≡ true
unfolding level_text
level_bytes negative w f hw hf =
    let sign : List ℕ = cond (negative && not (is_zero w && is_zero f)) (45 ∷ []) [] in
    joined (sign ++ or_zero (without_first_zeros w)) (with_point (without_last_zeros f))
    (joined sign (or_zero (without_first_zeros w)) (sign_bytes (negative && not (is_zero w && is_zero f))) (or_zero_bytes (without_first_zeros w) (digits_are_values (without_first_zeros w) (first_digits w hw))))
    (point_bytes (without_last_zeros f) (digits_are_values (without_last_zeros f) (last_digits f hf)))

pub types_are_value : (t u : ℕ) → t < 2 ^ 8 → u < 2 ^ 8 → length ((decimal t ++ codes "-") ++ decimal u) ≤ 32 → is_value ((decimal t ++ codes "-") ++ decimal u) ≡ true
types_are_value t u ts us short =
    value_from ((decimal t ++ codes "-") ++ decimal u) (marked t 45 (decimal u) (omega arith) refl (decimal_bytes u (omega arith)))
    (omega (arith, length-append (decimal t ++ codes "-") (decimal u), decimal_some u (omega arith))) (omega arith)

abbrev nil : List ℕ
nil = []

abbrev AtMostDay : Option ℕ → Type 0
AtMostDay o = IfSome o (λ s. s ≤ 86400)

either : (b : Bool) (x : ℕ) (o : Option ℕ) → x ≤ 86400 → AtMostDay o → AtMostDay (cond b (Some x) o)
either true x o few h = few
either false x o few h = h

-- a unit has no more seconds than a day
unit_few : (unit : ℕ) → AtMostDay (unit_seconds unit)
unit_few unit =
    either (eqb unit 0) 60 _ (omega arith) (either (eqb unit 1) 3600 _ (omega arith) (either (eqb unit 2) 86400 _ (omega arith)
    (either (eqb unit 10) 10800 _ (omega arith) (either (eqb unit 11) 21600 _ (omega arith) (either (eqb unit 12) 43200 _ (omega arith) (either (eqb unit 13) 1 None (omega arith) tt))))))

pub seconds_few : (n unit s : ℕ) → n < 2 ^ 52 → unit_seconds unit ≡ Some s → n * s < 10 ^ 22
seconds_few n unit s small h =
    let few : s ≤ 86400 = let P : Option ℕ → Type 0 = AtMostDay in subst P h (unit_few unit) in
    let product : n * s ≤ n * 86400 = mul-le-mul_left n few in
    omega arith

or_zero_some : (ds : List ℕ) → 0 < length (or_zero ds)
or_zero_some [] = omega arith
or_zero_some (d ∷ ds) = omega arith

sign_few : (negative z : Bool) → length (cond (negative && z) (45 ∷ nil) nil) ≤ cond negative 1 0
sign_few true true = omega arith
sign_few true false = omega arith
sign_few false z = omega arith

or_zero_few : (ds w : List ℕ) → length ds ≤ length w → 0 < length w → length (or_zero ds) ≤ length w
or_zero_few [] w le some = some
or_zero_few (d ∷ ds) w le some = le

-- a decimal is no longer than the text that it was read from
level_is_decimal : (negative : Bool) (w f : List ℕ) (most : ℕ) → is_numeral w ≡ true → list_all is_ascii_digit f ≡ true → length w + length (with_point (without_last_zeros f)) ≤ most
    → IsDecimal (most + cond negative 1 0) (level_text negative w f)
unfolding level_text
level_is_decimal negative w f most hw hf fits =
    let parts = and_parts (ltb 0 (length w)) (list_all is_ascii_digit w) hw in
    let some : 0 < length w = ltb-true 0 (length w) parts.0 in
    let z : Bool = not (is_zero w && is_zero f) in
    let sign : List ℕ = cond (negative && z) (45 ∷ nil) nil in
    let whole : List ℕ = or_zero (without_first_zeros w) in
    let fraction : List ℕ = with_point (without_last_zeros f) in
    let all : length ((sign ++ whole) ++ fraction) ≡ length (sign ++ whole) + length fraction = length-append (sign ++ whole) fraction in
    let front : length (sign ++ whole) ≡ length sign + length whole = length-append sign whole in
    let whole_few : length whole ≤ length w = or_zero_few (without_first_zeros w) w (first_shorter w) some in
    let whole_some : 0 < length whole = or_zero_some (without_first_zeros w) in
    let sign_most : length sign ≤ cond negative 1 0 = sign_few negative z in
    record {
      bytes = level_bytes negative w f parts.1 hf;
      some = omega (arith, all, front, whole_some);
      few = omega (arith, all, front, whole_few, sign_most, fits);
    }

pub with_point_decimal : (negative : Bool) (w f : List ℕ) (most : ℕ) → is_numeral w ≡ true → is_numeral f ≡ true → length w + length f + 1 ≡ most → IsDecimal (most + cond negative 1 0) (level_text negative w f)
with_point_decimal negative w f most hw hf lengths =
    level_is_decimal negative w f most hw (and_parts (ltb 0 (length f)) (list_all is_ascii_digit f) hf).1 (omega (arith, point_longer (without_last_zeros f), last_shorter f))

pub without_point_decimal : (negative : Bool) (w : List ℕ) → is_numeral w ≡ true → IsDecimal (length w + cond negative 1 0) (level_text negative w [])
without_point_decimal negative w hw = level_is_decimal negative w [] (length w) hw refl (omega arith)

pub alone_is_value : (w s : List ℕ) (n : ℕ) → Some s ≡ levels_text None (Some w) → IsDecimal n w → n + 1 ≤ 255 → is_value s ≡ true
alone_is_value w s n e d fits =
    let same : s ≡ codes "_" ++ w = cc in
    let size : length (codes "_" ++ w) ≡ 1 + length w = length-append (codes "_") w in
    let value : is_value (codes "_" ++ w) ≡ true = value_from (codes "_" ++ w) (joined (codes "_") w refl d.bytes) (omega arith) (omega (arith, d.few)) in
    ap is_value same ∙ value

pub both_are_value : (v w s : List ℕ) (m n : ℕ) → Some s ≡ levels_text (Some v) (Some w) → IsDecimal m v → IsDecimal n w → m + n + 1 ≤ 255 → is_value s ≡ true
both_are_value v w s m n e dv dw fits =
    let same : s ≡ (v ++ codes "_") ++ w = cc in
    let front : length (v ++ codes "_") ≡ length v + 1 = length-append v (codes "_") in
    let size : length ((v ++ codes "_") ++ w) ≡ length (v ++ codes "_") + length w = length-append (v ++ codes "_") w in
    let value : is_value ((v ++ codes "_") ++ w) ≡ true =
    value_from ((v ++ codes "_") ++ w) (joined (v ++ codes "_") w (joined v (codes "_") dv.bytes refl) dw.bytes) (omega arith) (omega (arith, dv.few, dw.few)) in
    ap is_value same ∙ value

pub decimal_is_value : (n : ℕ) (s : List ℕ) → IsDecimal n s → n ≤ 255 → is_value s ≡ true
decimal_is_value n s d fits = value_from s d.bytes d.some (omega (arith, d.few))
