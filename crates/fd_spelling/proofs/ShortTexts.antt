-- How long the texts of values are.
use Rattle.std.proofs.Common.{◌≡◌, ◌<◌, ◌≤◌, ◌*◌, ◌/◌, ◌%◌, ◌^◌, ℕ, Bool, true, false, cond, [], ◌∷◌, ◌++◌, length, Option, Some, None, refl, arith, length-append}
use Rattle.std.specs.Prelude.{◌&&◌, ◌==◌, codes, nat_lt}
use Rattle.std.specs.Fmt.{decimal}
use Rattle.fd_spelling.specs.Canonical.{param_text}
use Rattle.fd_spelling.specs.Civil.{date_text, time_text, two_digits}
use Rattle.fd_spelling.specs.Levels.{levtype_text}
use Rattle.fd_spelling.specs.Steps.{magnitude_text, seconds_text, sign_text, step_text, unit_seconds}
use Rattle.fd_spelling.proofs.Digits.{short_number, short_param, short_two, short_with_letter, short_with_unit}
use Rattle.fd_spelling.proofs.ValueLaws.{seconds_few}

pub date_short : (y m d : ℕ) → length (date_text y m d) ≤ 8
unfolding date_text
date_short y m d = omega arith

pub time_short : (h m s : ℕ) → length (time_text h m s) ≤ 6
unfolding time_text
time_short h m s = go (s == 0)
  where
    go : (b : Bool) → length (two_digits h ++ two_digits m ++ cond b [] (two_digits s)) ≤ 6
    go true = omega arith
    go false = omega arith

pub param_short : (d c n : ℕ) → d < 2 ^ 8 → c < 2 ^ 8 → n < 2 ^ 8 → length (param_text d c n) ≤ 32
param_short d c n ds cs ns = short_param d c n (param_text d c n) refl ds cs ns

pub levtype_short : (t u : ℕ) → t < 2 ^ 8 → u < 2 ^ 8 → length (levtype_text t u) ≤ 32
unfolding levtype_text
levtype_short t u ts us = go (u == 255)
  where
    go : (b : Bool) → length (cond b (decimal t) (decimal t ++ codes "-" ++ decimal u)) ≤ 32
    go true = short_number 32 t (decimal t) refl (omega arith) (omega arith) (omega arith)
    go false = short_two t u (decimal t ++ codes "-" ++ decimal u) refl ts us

seconds_short : (s : ℕ) → s < 10 ^ 22 → length (seconds_text s) ≤ 23
seconds_short s few = go (s % 3600 == 0) (s % 60 == 0)
  where
    go : (a b : Bool) → length (cond a (decimal (s / 3600)) (cond b (decimal (s / 60) ++ codes "m") (decimal s ++ codes "s"))) ≤ 23
    go true b = short_number 23 (s / 3600) (decimal (s / 3600)) refl (omega arith) (omega arith) (omega arith)
    go false true = short_with_letter 22 (s / 60) 109 (decimal (s / 60) ++ codes "m") refl (omega arith) (omega arith) (omega arith)
    go false false = short_with_letter 22 s 115 (decimal s ++ codes "s") refl (omega arith) (omega arith) (omega arith)

magnitude_short : (n unit : ℕ) (o : Option ℕ) → n < 2 ^ 52 → unit < 2 ^ 8 → ((s : ℕ) → o ≡ Some s → n * s < 10 ^ 22) → length (magnitude_text n unit o) ≤ 23
magnitude_short n unit None small few bound = short_with_unit n unit (decimal n ++ codes "u" ++ decimal unit) refl small few
magnitude_short n unit (Some s) small few bound = seconds_short (n * s) (bound s refl)

sign_short : (b : Bool) → length {A = ℕ} (cond b (45 ∷ []) []) ≤ 1
sign_short true = omega arith
sign_short false = omega arith

pub step_short : (negative : Bool) (n unit : ℕ) → n < 2 ^ 52 → unit < 2 ^ 8 → length (step_text negative n unit) ≤ 24
unfolding step_text
step_short negative n unit small few =
    let rest : length (magnitude_text n unit (unit_seconds unit)) ≤ 23 = magnitude_short n unit (unit_seconds unit) small few (λ (s : ℕ) (h : unit_seconds unit ≡ Some s). seconds_few n unit s small h) in
    omega (arith, length-append (sign_text negative n) (magnitude_text n unit (unit_seconds unit)), sign_short (negative && nat_lt 0 n), rest)

pub number_short : (n : ℕ) → n < 2 ^ 32 → length (decimal n) ≤ 10
number_short n small = short_number 10 n (decimal n) refl (omega arith) (omega arith) (omega arith)
