-- No fault of reading rounds is that sections are repeated.
use Rattle.std.proofs.Common.{◌≡◌, ℕ, ◌-◌, Bool, true, false, cond, List, [], ◌∷◌, length, Option, Some, None, Result, Ok, Err, refl, sym, subst, not}
use Rattle.std.specs.Prelude.{◌&&◌, ◌||◌, ◌==◌, is_some, nat_eq, nat_le, nat_lt, take, drop}
use Rattle.std.specs.List.{starts_with}
use Rattle.fd_bytes.specs.Numbers.{octets}
use Rattle.fd_sections.specs.Message.{grib}
use Rattle.fd_sections.specs.declared.bad.Bad.{Bad}
use Rattle.fd_sections.specs.declared.bad.Bad.TheVariants.{Edition, Length, MultiField, NoEnd, NoStart, Over, Section, Short, TooLong}
use Rattle.fd_sections.specs.Reading.{◌>>=◌, indicator_at, local_use_at, repeats, section_at}
use Rattle.fd_split.specs.Rounds.{Round, Rounds}
use Rattle.fd_split.specs.Reading.{NoMap, NoMessage, Wrong, before, ends, fields_of, fields_of_rounds, fields_or, grid_at, next_round, reading_fields, reading_rounds, round_at, round_before, rounds_at, rounds_of_at_most, skips_grid}

abbrev PlainBad : Bad → Type 0
PlainBad (MultiField section) = ⊥
PlainBad bad = Unit {0}

abbrev Plain : {A : Type 0} → Result A Bad → Type 0
Plain (Ok x) = Unit {0}
Plain (Err bad) = PlainBad bad

plain_bind : {A B : Type 0} (r : Result A Bad) (f : A → Result B Bad) → Plain r → ((x : A) → Plain (f x)) → Plain (r >>= f)
plain_bind (Ok x) f p each = each x
plain_bind (Err bad) f p each = p

plain_test : {A : Type 0} (b : Bool) (bad : Bad) (r : Result A Bad) → PlainBad bad → Plain r → Plain (cond b (Err bad) r)
plain_test true bad r p q = p
plain_test false bad r p q = q

plain_cond : {A : Type 0} (b : Bool) (r s : Result A Bad) → Plain r → Plain s → Plain (cond b r s)
plain_cond true r s p q = p
plain_cond false r s p q = q

plain_indicator : (m : List ℕ) → Plain (indicator_at m)
unfolding indicator_at
plain_indicator m =
    plain_test (nat_lt (length m) 16) (Short 0 (length m)) _ tt
    (plain_test (not (starts_with nat_eq m grib)) NoStart _ tt
    (plain_test (not (octets 8 8 m == 2)) (Edition (octets 8 8 m)) _ tt
    (plain_test (nat_lt 134217728 (octets 9 16 m)) (TooLong (octets 9 16 m)) _ tt
    (plain_test (not (octets 9 16 m == length m)) (Length (octets 9 16 m) (length m)) (Ok (take 16 m, drop 16 m)) tt tt))))

plain_section : (number least : ℕ) (rest : List ℕ) → Plain (section_at number least rest)
unfolding section_at
plain_section number least rest =
    plain_test (nat_lt (length rest) 5) (Short number (length rest)) _ tt
    (plain_test (not (octets 5 5 rest == number)) (Section number (octets 5 5 rest)) _ tt
    (plain_test (nat_lt (octets 1 4 rest) least) (Short number (octets 1 4 rest)) _ tt
    (plain_test (nat_lt (length rest) (octets 1 4 rest)) (Over number (octets 1 4 rest) (length rest)) (Ok (take (octets 1 4 rest) rest, drop (octets 1 4 rest) rest)) tt tt)))

abbrev Maybe : Type 0
Maybe = Option (List ℕ) × List ℕ

abbrev with_some : List ℕ × List ℕ → Result Maybe Bad
with_some s = Ok (Some s.0, s.1)

plain_some : (number least : ℕ) (rest : List ℕ) → Plain (section_at number least rest >>= with_some)
plain_some number least rest = plain_bind (section_at number least rest) with_some (plain_section number least rest) (λ s. tt)

plain_local : (rest : List ℕ) → Plain (local_use_at rest)
unfolding local_use_at
plain_local rest = plain_cond {A = Maybe} (nat_le 5 (length rest) && (octets 5 5 rest == 2)) (section_at 2 5 rest >>= with_some) (Ok (None, rest)) (plain_some 2 5 rest) tt

plain_grid : (needed : Bool) (rest : List ℕ) → Plain (grid_at needed rest)
unfolding grid_at
plain_grid needed rest = plain_cond {A = Maybe} (not needed && skips_grid rest) (Ok (None, rest)) (section_at 3 14 rest >>= with_some) tt (plain_some 3 14 rest)

plain_round : (first : Bool) (rest : List ℕ) → Plain (round_at first rest)
unfolding round_at
plain_round first rest =
    plain_bind (local_use_at rest) _ (plain_local rest) (λ s2.
    plain_bind (grid_at (first || is_some s2.0) s2.1) _ (plain_grid (first || is_some s2.0) s2.1) (λ s3.
    plain_bind (section_at 4 9 s3.1) _ (plain_section 4 9 s3.1) (λ s4.
    plain_bind (section_at 5 11 s4.1) _ (plain_section 5 11 s4.1) (λ s5.
    plain_bind (section_at 6 6 s5.1) _ (plain_section 6 6 s5.1) (λ s6.
    plain_bind (section_at 7 5 s6.1) _ (plain_section 7 5 s6.1) (λ s7. tt))))))

plain_before : (x : Round) (r : Result (List Round) Bad) → Plain r → Plain (before x r)
plain_before x (Ok rs) p = tt
plain_before x (Err bad) p = p

plain_round_before : (o : Result (Round × List ℕ) Bad) (g : List ℕ → Result (List Round) Bad) → Plain o → ((rest : List ℕ) → Plain (g rest)) → Plain (round_before o g)
plain_round_before (Ok x) g p each = plain_before x.0 (g x.1) (each x.1)
plain_round_before (Err bad) g p each = p

plain_at_most : (total : ℕ) (bound rest : List ℕ) → Plain (rounds_of_at_most bound total rest)
plain_at_most total [] rest = tt
plain_at_most total (b ∷ bound) rest =
    plain_cond (ends rest) (Ok []) (cond (repeats rest) (round_before (round_at false rest) (rounds_of_at_most bound total)) (Err (NoEnd (total - length rest)))) tt
    (plain_cond (repeats rest) (round_before (round_at false rest) (rounds_of_at_most bound total)) (Err (NoEnd (total - length rest))) (plain_round_before (round_at false rest) (rounds_of_at_most bound total) (plain_round false rest) (plain_at_most total bound)) tt)

plain_rounds : (total : ℕ) (rest : List ℕ) → Plain (rounds_at total rest)
unfolding rounds_at
plain_rounds total rest = plain_at_most total (0 ∷ rest) rest

plain_all : (m : List ℕ) → Plain (reading_rounds m)
unfolding reading_rounds
plain_all m =
    plain_bind (indicator_at m) _ (plain_indicator m) (λ s0.
    plain_bind (section_at 1 21 s0.1) _ (plain_section 1 21 s0.1) (λ s1.
    plain_bind (round_at true s1.1) _ (plain_round true s1.1) (λ r.
    plain_bind (rounds_at (length m) r.1) _ (plain_rounds (length m) r.1) (λ rs. tt))))

no_multi : (r : Result Rounds Bad) (section : ℕ) → Plain r → fields_of r ≡ Err (NoMessage (MultiField section)) → ⊥
no_multi (Ok x) section p e = apart (Rattle.fd_split.specs.Rounds.unmapped_field (Rattle.fd_split.specs.Rounds.all_rounds x)) e
  where
    apart : (o : Option ℕ) → fields_or o (Rattle.fd_split.specs.Rounds.measured_all (Rattle.fd_split.specs.Rounds.fields_in x.indicator x.identification Rattle.fd_split.specs.Rounds.no_force (Rattle.fd_split.specs.Rounds.all_rounds x))) ≡ Err (NoMessage (MultiField section)) → ⊥
    apart None e = cc
    apart (Some n) e = cc
no_multi (Err bad) section p e = let is : bad ≡ MultiField section = cc in subst PlainBad is p

pub never_multi : (m : List ℕ) (section : ℕ) → reading_fields m ≡ Err (NoMessage (MultiField section)) → ⊥
never_multi m section e = no_multi (reading_rounds m) section (plain_all m) e
