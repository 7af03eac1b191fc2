-- A message of several fields (FM 92): sections 2 to 7, 3 to 7 or 4 to 7 may come again, and each round of them is a field.
use Rattle.std.specs.Prelude.{◌≡◌, ◌≤◌, ◌+◌, ℕ, Bool, true, false, not, ◌&&◌, ◌==◌, List, [], ◌∷◌, ◌++◌, length, take, map, All, Option, Some, None, IfSome, IsSome, is_none, unwrap_or, Result, Ok, Err, if◌then◌else◌}
use Rattle.byteorder.specs.Endian.{big_bytes}
use Rattle.fd_bytes.specs.Numbers.{octets}
use Rattle.fd_sections.specs.Message.{Sections, IsIndicator, IsSection, end_section, if_present, message_octets}

-- the sections that a field has anew
pub record Round : Type 0 where
  pub local_use : Option (List ℕ)
  pub grid : Option (List ℕ)
  pub product : List ℕ
  pub representation : List ℕ
  pub bit_map : List ℕ
  pub values : List ℕ

abbrev pub round_octets : Round → List ℕ
round_octets r = if_present r.local_use ++ (if_present r.grid ++ (r.product ++ (r.representation ++ (r.bit_map ++ r.values))))

abbrev pub rounds_octets : List Round → List ℕ
rounds_octets [] = []
rounds_octets (r ∷ rs) = round_octets r ++ rounds_octets rs

-- A round begins with section 2, 3 or 4, and has each section from there to 7 once.
pub record IsRound (r : Round) : Type 0 where
  pub local_use : IfSome r.local_use (IsSection 2 5)
  pub grid : IfSome r.grid (IsSection 3 14)
  pub order : r.grid ≡ None → r.local_use ≡ None
  pub product : IsSection 4 9 r.product
  pub representation : IsSection 5 11 r.representation
  pub bit_map : IsSection 6 6 r.bit_map
  pub values : IsSection 7 5 r.values

-- sections 0 and 1 of a message, and its rounds
pub record Rounds : Type 0 where
  pub indicator : List ℕ
  pub identification : List ℕ
  pub first : Round
  pub others : List Round

abbrev pub all_rounds : Rounds → List Round
all_rounds x = x.first ∷ x.others

-- The octets m are sections 0 and 1, these rounds and `7777`. The first round has a section 3.
pub record HasRounds (m : List ℕ) (x : Rounds) : Type 0 where
  pub whole : m ≡ x.indicator ++ (x.identification ++ (rounds_octets (all_rounds x) ++ end_section))
  pub indicator : IsIndicator (length m) x.indicator
  pub identification : IsSection 1 21 x.identification
  pub grid : IsSome x.first.grid
  pub rounds : All IsRound (all_rounds x)

-- ---- the fields

-- What is in force behind some rounds: the last sections 2 and 3, and the last section 6 that doesn't say that the one before it
-- applies, nor that there is none.
pub record Force : Type 0 where
  pub local_use : Option (List ℕ)
  pub grid : List ℕ
  pub bit_map : Option (List ℕ)

abbrev pub no_force : Force
no_force = record { local_use = None; grid = []; bit_map = None }

-- the bit map before it applies
abbrev pub repeats_map : List ℕ → Bool
repeats_map s = octets 6 6 s == 254

-- it has a bit map, or names one
abbrev pub has_map : List ℕ → Bool
has_map s = not (octets 6 6 s == 254) && not (octets 6 6 s == 255)

abbrev pub newer : Option (List ℕ) → Option (List ℕ) → Option (List ℕ)
newer None old = old
newer (Some s) old = Some s

abbrev pub forced : Force → Round → Force
forced f r = record { local_use = newer r.local_use f.local_use; grid = unwrap_or r.grid f.grid; bit_map = if has_map r.bit_map then Some r.bit_map else f.bit_map }

-- section 6 of a field
abbrev pub map_of : Force → Round → List ℕ
map_of f r = if repeats_map r.bit_map then unwrap_or f.bit_map r.bit_map else r.bit_map

-- the bit map before it applies, and there is none
abbrev pub lacks_map : Force → Round → Bool
lacks_map f r = repeats_map r.bit_map && is_none f.bit_map

-- the sections of a field, with section 0 of its message
abbrev pub field_in : List ℕ → List ℕ → Force → Round → Sections
field_in s0 s1 f r = record {
  indicator = s0;
  identification = s1;
  local_use = newer r.local_use f.local_use;
  grid = unwrap_or r.grid f.grid;
  product = r.product;
  representation = r.representation;
  bit_map = map_of f r;
  values = r.values;
}

-- the same of each round, one after the other
abbrev pub fields_in : List ℕ → List ℕ → Force → List Round → List Sections
fields_in s0 s1 f [] = []
fields_in s0 s1 f (r ∷ rs) = field_in s0 s1 f r ∷ fields_in s0 s1 (forced f r) rs

-- the first field, from this number on, whose section 6 says that the one before it applies where there is none
abbrev pub unmapped : ℕ → Force → List Round → Option ℕ
unmapped n f [] = None
unmapped n f (r ∷ rs) = if lacks_map f r then Some n else unmapped (n + 1) (forced f r) rs

-- the first that lacks a bit map, of those before number k and of k, which lacks one or not
abbrev pub lacks_by : Option ℕ → Bool → ℕ → Option ℕ
lacks_by (Some n) lacks k = Some n
lacks_by None true k = Some k
lacks_by None false k = None

-- with its own length in octets 9 to 16
abbrev pub measured : Sections → Sections
measured s = record {
  indicator = take 8 s.indicator ++ big_bytes 8 (length (message_octets s));
  identification = s.identification;
  local_use = s.local_use;
  grid = s.grid;
  product = s.product;
  representation = s.representation;
  bit_map = s.bit_map;
  values = s.values;
}

-- a single field is its message; of several each has its own length
abbrev pub measured_all : List Sections → List Sections
measured_all [] = []
measured_all (s ∷ []) = s ∷ []
measured_all (s ∷ t ∷ ss) = map measured (s ∷ t ∷ ss)

-- of several fields the first one that lacks a bit map
abbrev pub unmapped_field : List Round → Option ℕ
unmapped_field [] = None
unmapped_field (r ∷ []) = None
unmapped_field (r ∷ q ∷ rs) = unmapped 1 no_force (r ∷ q ∷ rs)

-- The octets m are a message of these fields.
pub record IsFields (m : List ℕ) (fields : List Sections) : Type 0 where
  pub rounds : Rounds
  pub has : HasRounds m rounds
  pub mapped : unmapped_field (all_rounds rounds) ≡ None
  pub fields_are : fields ≡ measured_all (fields_in rounds.indicator rounds.identification no_force (all_rounds rounds))
