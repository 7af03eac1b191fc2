-- Reading a message of several fields from left to right: its rounds, or the first thing that is wrong.
use Rattle.std.specs.Prelude.{◌-◌, ℕ, Bool, true, false, not, ◌&&◌, ◌||◌, ◌==◌, List, [], ◌∷◌, length, is_some, nat_eq, nat_le, Option, Some, None, Result, Ok, Err, if◌then◌else◌}
use Rattle.std.specs.List.{starts_with}
use Rattle.fd_bytes.specs.Numbers.{octets}
use Rattle.fd_sections.specs.declared.bad.Bad.{Bad}
use Rattle.fd_sections.specs.declared.bad.Bad.TheVariants.{NoEnd}
use Rattle.fd_sections.specs.Message.{Sections, end_section}
use Rattle.fd_sections.specs.Reading.{◌>>=◌, indicator_at, section_at, local_use_at, repeats}
use Rattle.fd_split.specs.Rounds.{Round, Rounds, all_rounds, fields_in, measured_all, no_force, unmapped_field}

-- section 4 comes here
abbrev pub skips_grid : List ℕ → Bool
skips_grid rest = nat_le 5 (length rest) && (octets 5 5 rest == 4)

-- section 3, which may be left out where it isn't needed
unfoldable pub grid_at : Bool → List ℕ → Result (Option (List ℕ) × List ℕ) Bad
grid_at needed rest =
    if not needed && skips_grid rest then Ok (None, rest)
    else (section_at 3 14 rest >>= λ s. Ok (Some s.0, s.1))

-- a round of sections, and what follows it; in the first one, and behind section 2, section 3 is needed
unfoldable pub round_at : Bool → List ℕ → Result (Round × List ℕ) Bad
round_at first rest = do
  s2 ← local_use_at rest
  s3 ← grid_at (first || is_some s2.0) s2.1
  s4 ← section_at 4 9 s3.1
  s5 ← section_at 5 11 s4.1
  s6 ← section_at 6 6 s5.1
  s7 ← section_at 7 5 s6.1
  Ok (record { local_use = s2.0; grid = s3.0; product = s4.0; representation = s5.0; bit_map = s6.0; values = s7.0 }, s7.1)

-- section 8, behind which nothing stands
abbrev pub ends : List ℕ → Bool
ends rest = starts_with nat_eq rest end_section && (length rest == 4)

-- a round before others
abbrev pub before : Round → Result (List Round) Bad → Result (List Round) Bad
before r (Ok rs) = Ok (r ∷ rs)
before r (Err bad) = Err bad

abbrev pub round_before : Result (Round × List ℕ) Bad → (List ℕ → Result (List Round) Bad) → Result (List Round) Bad
round_before (Ok x) others = before x.0 (others x.1)
round_before (Err bad) others = Err bad

-- what comes behind section 7 in a message of so many octets: its end, another round, or neither
abbrev pub next_round : ℕ → List ℕ → (List ℕ → Result (List Round) Bad) → Result (List Round) Bad
next_round total rest others =
    if ends rest then Ok []
    else if repeats rest then round_before (round_at false rest) others
    else Err (NoEnd (total - length rest))

-- the rounds that come, of which there are fewer than the list has elements
abbrev pub rounds_of_at_most : List ℕ → ℕ → List ℕ → Result (List Round) Bad
rounds_of_at_most [] total rest = Ok []
rounds_of_at_most (_ ∷ bound) total rest = next_round total rest (rounds_of_at_most bound total)

unfoldable pub rounds_at : ℕ → List ℕ → Result (List Round) Bad
rounds_at total rest = rounds_of_at_most (0 ∷ rest) total rest

-- sections 0 and 1, and the rounds
unfoldable pub reading_rounds : List ℕ → Result Rounds Bad
reading_rounds m = do
  s0 ← indicator_at m
  s1 ← section_at 1 21 s0.1
  r ← round_at true s1.1
  rs ← rounds_at (length m) r.1
  Ok (record { indicator = s0.0; identification = s1.0; first = r.0; others = rs })

-- why a message isn't split: the first thing that is wrong in its octets, or the first of several fields that lacks a bit map
pub data Wrong : Type 0 where
  NoMessage : (bad : Bad) → Wrong
  NoMap : (field : ℕ) → Wrong

abbrev pub fields_or : Option ℕ → List Sections → Result (List Sections) Wrong
fields_or None fields = Ok fields
fields_or (Some n) fields = Err (NoMap n)

-- the fields of rounds, or the first of several that lacks a bit map
abbrev pub fields_of_rounds : Rounds → Result (List Sections) Wrong
fields_of_rounds x = fields_or (unmapped_field (all_rounds x)) (measured_all (fields_in x.indicator x.identification no_force (all_rounds x)))

abbrev pub fields_of : Result Rounds Bad → Result (List Sections) Wrong
fields_of (Ok x) = fields_of_rounds x
fields_of (Err bad) = Err (NoMessage bad)

-- the fields of a message, or the first thing that is wrong
abbrev pub reading_fields : List ℕ → Result (List Sections) Wrong
reading_fields m = fields_of (reading_rounds m)
