-- What is read of a message, from its sections 0 and 1, its rounds, and the fields that are cut of them.
use Rattle.std.proofs.Common.{◌≡◌, ℕ, true, ◌+◌, ◌<◌, ◌≤◌, List, [], ◌∷◌, ◌++◌, length, map, take, drop, Option, Some, None, Result, Ok, Err, IfOk, OnOk, All, refl, sym, ap, subst, ◌∙◌, append_assoc, arith, length-append, lit≤}
use Rattle.std.proofs.lemmas.List.{length-map}
use Rattle.byteorder.specs.Endian.{big_bytes}
use Rattle.fd_sections.specs.declared.bad.Bad.{Bad}
use Rattle.fd_sections.specs.declared.bad.Bad.TheVariants.{NoStart}
use Rattle.fd_sections.specs.Message.{Sections, message_octets}
use Rattle.fd_sections.specs.Reading.{◌>>=◌, indicator_at, section_at}
use Rattle.fd_split.specs.Rounds.{Force, HasRounds, Round, Rounds, all_rounds, fields_in, measured, measured_all, no_force, rounds_octets, unmapped, unmapped_field}
use Rattle.fd_split.specs.Reading.{NoMap, NoMessage, Wrong, before, fields_of, fields_of_rounds, fields_or, reading_fields, reading_rounds, round_at, round_before, rounds_at}
use Rattle.fd_sections.proofs.SectionLaws.{indicator_takes, section_takes}
use Rattle.fd_split.specs.declared.fault.SplitFault.{SplitFault}
use Rattle.fd_split.specs.declared.fault.SplitFault.TheVariants as faults
use Rattle.fd_split.specs.declared.slices.Slices.{Slices}
use Rattle.fd_split.specs.Seen.{AreRead, IsOpened, IsWhole}
use Rattle.fd_split.proofs.RoundLaws.{reading_has}
use Rattle.fd_split.proofs.Whole.{fields_whole}

abbrev pub rounds_of : List ℕ → List ℕ → Result (List Round) Bad → Result Rounds Bad
rounds_of s0 s1 (Ok []) = Err NoStart
rounds_of s0 s1 (Ok (r ∷ rs)) = Ok (record { indicator = s0; identification = s1; first = r; others = rs })
rounds_of s0 s1 (Err bad) = Err bad

rounds_from : (s0 s1 : List ℕ) (o : Result (Round × List ℕ) Bad) (g : List ℕ → Result (List Round) Bad)
    → (o >>= λ r. g r.1 >>= λ rs. Ok (record { indicator = s0; identification = s1; first = r.0; others = rs })) ≡ rounds_of s0 s1 (round_before o g)
rounds_from s0 s1 (Ok x) g = by (g x.1)
  where
    by : (z : Result (List Round) Bad) → (z >>= λ rs. Ok (record { indicator = s0; identification = s1; first = x.0; others = rs })) ≡ rounds_of s0 s1 (before x.0 z)
    by (Ok rs) = refl
    by (Err bad) = refl
rounds_from s0 s1 (Err bad) g = refl

pub reading_from : (m s0 r0 s1 r1 : List ℕ) → indicator_at m ≡ Ok (s0, r0) → section_at 1 21 r0 ≡ Ok (s1, r1) → reading_rounds m ≡ rounds_of s0 s1 (round_before (round_at true r1) (rounds_at (length m)))
unfolding reading_rounds
reading_from m s0 r0 s1 r1 a b = rw (a, b) (rounds_from s0 s1 (round_at true r1) (rounds_at (length m)))

pub no_indicator : (m : List ℕ) (bad : Bad) → indicator_at m ≡ Err bad → reading_fields m ≡ Err (NoMessage bad)
unfolding reading_rounds
no_indicator m bad a = rw a refl

pub no_identification : (m s0 r0 : List ℕ) (bad : Bad) → indicator_at m ≡ Ok (s0, r0) → section_at 1 21 r0 ≡ Err bad → reading_fields m ≡ Err (NoMessage bad)
unfolding reading_rounds
no_identification m s0 r0 bad a b = rw (a, b) refl

pub no_rounds : (m s0 r0 s1 r1 : List ℕ) (bad : Bad) → indicator_at m ≡ Ok (s0, r0) → section_at 1 21 r0 ≡ Ok (s1, r1) → round_before (round_at true r1) (rounds_at (length m)) ≡ Err bad → reading_fields m ≡ Err (NoMessage bad)
no_rounds m s0 r0 s1 r1 bad a b c = ap fields_of (reading_from m s0 r0 s1 r1 a b ∙ ap (rounds_of s0 s1) c)

-- the rounds that were read
pub record AreRounds (m s0 s1 : List ℕ) (rs : List Round) : Type 0 where
  pub first : Round
  pub others : List Round
  pub are : rs ≡ first ∷ others
  pub read : reading_rounds m ≡ Ok (record { indicator = s0; identification = s1; first = first; others = others })

some_rounds : (o : Result (Round × List ℕ) Bad) (g : List ℕ → Result (List Round) Bad) (rs : List Round) → round_before o g ≡ Ok rs → (r : Round) × ((qs : List Round) × (rs ≡ r ∷ qs))
some_rounds (Ok x) g rs e = by (g x.1) e
  where
    by : (z : Result (List Round) Bad) → before x.0 z ≡ Ok rs → (r : Round) × ((qs : List Round) × (rs ≡ r ∷ qs))
    by (Ok qs) e = (x.0, (qs, cc))
    by (Err bad) e = absurd cc
some_rounds (Err bad) g rs e = absurd cc

pub are_rounds : (m s0 r0 s1 r1 : List ℕ) (rs : List Round) → indicator_at m ≡ Ok (s0, r0) → section_at 1 21 r0 ≡ Ok (s1, r1) → round_before (round_at true r1) (rounds_at (length m)) ≡ Ok rs → AreRounds m s0 s1 rs
are_rounds m s0 r0 s1 r1 rs a b c =
    let x = some_rounds (round_at true r1) (rounds_at (length m)) rs c in
    record { first = x.0; others = x.1.0; are = x.1.1; read = reading_from m s0 r0 s1 r1 a b ∙ ap (rounds_of s0 s1) (c ∙ ap (λ (t : List Round). Ok t) x.1.1) }

pub fields_are : (m s0 s1 : List ℕ) (rs : List Round) → AreRounds m s0 s1 rs → reading_fields m ≡ fields_or (unmapped_field rs) (measured_all (fields_in s0 s1 no_force rs))
fields_are m s0 s1 rs x = ap fields_of x.read ∙ ap (λ (t : List Round). fields_or (unmapped_field t) (measured_all (fields_in s0 s1 no_force t))) (sym x.are)

-- of several rounds the first that lacks a bit map is told
pub lacks_one : (rs : List Round) (n : ℕ) → 1 < length rs → Some n ≡ unmapped 1 no_force rs → unmapped_field rs ≡ Some n
lacks_one [] n lt e = absurd (omega (arith, lt))
lacks_one (r ∷ []) n lt e = absurd (omega (arith, lt))
lacks_one (r ∷ q ∷ rs) n lt e = sym e

pub lacks_none : (rs : List Round) → None ≡ unmapped 1 no_force rs → unmapped_field rs ≡ None
lacks_none [] e = refl
lacks_none (r ∷ []) e = refl
lacks_none (r ∷ q ∷ rs) e = sym e

pub lacks_single : (rs : List Round) → length rs ≤ 1 → unmapped_field rs ≡ None
lacks_single [] le = refl
lacks_single (r ∷ []) le = refl
lacks_single (r ∷ q ∷ rs) le = absurd (omega (arith, le))

pub read_lacking : (m s0 s1 : List ℕ) (rs : List Round) (n : ℕ) → AreRounds m s0 s1 rs → unmapped_field rs ≡ Some n → reading_fields m ≡ Err (NoMap n)
read_lacking m s0 s1 rs n x e = fields_are m s0 s1 rs x ∙ ap (λ (o : Option ℕ). fields_or o (measured_all (fields_in s0 s1 no_force rs))) e

pub read_whole : (m s0 s1 : List ℕ) (rs : List Round) (fs : List Sections) → AreRounds m s0 s1 rs → unmapped_field rs ≡ None → fs ≡ fields_in s0 s1 no_force rs → reading_fields m ≡ Ok (measured_all fs)
read_whole m s0 s1 rs fs x e is = fields_are m s0 s1 rs x ∙ ap (λ (o : Option ℕ). fields_or o (measured_all (fields_in s0 s1 no_force rs))) e ∙ ap (λ (t : List Sections). Ok (measured_all t)) (sym is)

pub all_whole : (m s0 s1 : List ℕ) (rs : List Round) (fs : List Sections) → AreRounds m s0 s1 rs → fs ≡ fields_in s0 s1 no_force rs → All IsWhole (measured_all fs)
all_whole m s0 s1 rs fs x is =
    subst (λ (t : List Sections). All IsWhole (measured_all t)) (sym (is ∙ ap (fields_in s0 s1 no_force) x.are))
    (fields_whole m (record { indicator = s0; identification = s1; first = x.first; others = x.others }) (reading_has m (record { indicator = s0; identification = s1; first = x.first; others = x.others }) x.read))

pub measured_long : (fs : List Sections) → length (measured_all fs) ≡ length fs
measured_long [] = refl
measured_long (s ∷ []) = refl
measured_long (s ∷ t ∷ ss) = length-map (s ∷ t ∷ ss) measured

-- why the rounds aren't read
pub err_opened : (m s0 r0 s1 r1 : List ℕ) (old new : List Slices) (fault : SplitFault) → indicator_at m ≡ Ok (s0, r0) → section_at 1 21 r0 ≡ Ok (s1, r1) → AreRead (round_before (round_at true r1) (rounds_at (length m))) old new (Err fault) → IsOpened {X = List Sections} (λ f. f) (reading_fields m) (Err fault)
err_opened m s0 r0 s1 r1 old new (faults.Bad bad) a b e = no_rounds m s0 r0 s1 r1 bad a b e
err_opened m s0 r0 s1 r1 old new (faults.NoMap field) a b e = absurd e
err_opened m s0 r0 s1 r1 old new faults.NoMemory a b e = tt

-- what follows sections 0 and 1 is shorter than the message, which has its limit
pub record Shorter (m s0 r1 : List ℕ) : Type 0 where
  pub size : length s0 ≡ 16
  pub limit : length m ≤ 134217728
  pub rest : length r1 ≤ length m

pub shorter : (m s0 r0 s1 r1 : List ℕ) → indicator_at m ≡ Ok (s0, r0) → section_at 1 21 r0 ≡ Ok (s1, r1) → Shorter m s0 r1
shorter m s0 r0 s1 r1 a b =
    let t = indicator_takes m (s0, r0) a in
    let u = section_takes 1 21 r0 (s1, r1) (lit≤ tt) b in
    record { size = t.1.size; limit = t.1.limit; rest = omega (arith, ap length t.0, length-append s0 r0, ap length u.0, length-append s1 r1) }
