-- Reading a message from left to right: its sections, or the first thing that is wrong.
use Rattle.std.specs.Prelude.{◌-◌, ℕ, List, length, take, drop, Option, Some, None, Result, Ok, Err, nat_lt, nat_eq, nat_le, ◌==◌, ◌&&◌, not, if◌then◌else◌, Bool}
use Rattle.std.specs.List.{starts_with}
use Rattle.fd_bytes.specs.Numbers.{octets}
use Rattle.fd_sections.specs.declared.bad.Bad.{Bad}
use Rattle.fd_sections.specs.declared.bad.Bad.TheVariants.{Edition, Length, Section, Short, NoEnd, MultiField, TooLong, NoStart, Over}
use Rattle.fd_sections.specs.Message.{Sections, grib, end_section}

infixl 10 ◌>>=◌
abbrev pub ◌>>=◌ : {A B : Type 0} → Result A Bad → (A → Result B Bad) → Result B Bad
(Ok x) >>= f = f x
(Err e) >>= f = Err e

-- section 0 of the whole message m, and what follows it
unfoldable pub indicator_at : List ℕ → Result (List ℕ × List ℕ) Bad
indicator_at m =
    if nat_lt (length m) 16 then Err (Short 0 (length m))
    else if not (starts_with nat_eq m grib) then Err NoStart
    else if not (octets 8 8 m == 2) then Err (Edition (octets 8 8 m))
    else if nat_lt 134217728 (octets 9 16 m) then Err (TooLong (octets 9 16 m))
    else if not (octets 9 16 m == length m) then Err (Length (octets 9 16 m) (length m))
    else Ok (take 16 m, drop 16 m)

-- the section of this number, which has at least so many octets, and what follows it
unfoldable pub section_at : ℕ → ℕ → List ℕ → Result (List ℕ × List ℕ) Bad
section_at number least rest =
    if nat_lt (length rest) 5 then Err (Short number (length rest))
    else if not (octets 5 5 rest == number) then Err (Section number (octets 5 5 rest))
    else if nat_lt (octets 1 4 rest) least then Err (Short number (octets 1 4 rest))
    else if nat_lt (length rest) (octets 1 4 rest) then Err (Over number (octets 1 4 rest) (length rest))
    else Ok (take (octets 1 4 rest) rest, drop (octets 1 4 rest) rest)

-- section 2, where one comes
unfoldable pub local_use_at : List ℕ → Result (Option (List ℕ) × List ℕ) Bad
local_use_at rest =
    if nat_le 5 (length rest) && (octets 5 5 rest == 2)
    then (section_at 2 5 rest >>= λ s. Ok (Some s.0, s.1))
    else Ok (None, rest)

-- a fourth field, which begins again at section 2, 3 or 4
abbrev pub repeats : List ℕ → Bool
repeats rest = nat_le 5 (length rest) && (not (starts_with nat_eq rest end_section) && (nat_le 2 (octets 5 5 rest) && nat_le (octets 5 5 rest) 4))

-- section 8, behind which nothing stands; `at` is the place after section 7
unfoldable pub end_at : ℕ → List ℕ → Result (Unit {0}) Bad
end_at at rest =
    if starts_with nat_eq rest end_section && (length rest == 4) then Ok tt
    else if repeats rest then Err (MultiField (octets 5 5 rest))
    else Err (NoEnd at)

unfoldable pub reading : List ℕ → Result Sections Bad
reading m = do
  s0 ← indicator_at m
  s1 ← section_at 1 21 s0.1
  s2 ← local_use_at s1.1
  s3 ← section_at 3 14 s2.1
  s4 ← section_at 4 9 s3.1
  s5 ← section_at 5 11 s4.1
  s6 ← section_at 6 6 s5.1
  s7 ← section_at 7 5 s6.1
  _ ← end_at (length m - length s7.1) s7.1
  Ok (record { indicator = s0.0; identification = s1.0; local_use = s2.0; grid = s3.0; product = s4.0; representation = s5.0; bit_map = s6.0; values = s7.0 })
