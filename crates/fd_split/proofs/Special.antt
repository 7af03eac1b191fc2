-- A message without repeated sections has one field, which is the message; and it is refused as before.
use Rattle.std.proofs.Common.{◌≡◌, ℕ, ◌+◌, ◌-◌, ◌*◌, ◌<◌, ◌≤◌, Bool, true, false, cond, not, List, [], ◌∷◌, ◌++◌, length, map, Option, Some, None, Result, Ok, Err, All, refl, sym, ap, subst, ◌∙◌, append-nil, arith, length-append, lit≤}
use Rattle.std.specs.Prelude.{IfOk, IfSome, IsSome, ◌&&◌, ◌||◌, ◌==◌, is_some, unwrap_or}
use Rattle.std.proofs.lemmas.List.{length-map}
use Rattle.std.proofs.lemmas.List.Elements.{All-head, All-tail}
use Rattle.fd_bytes.specs.Numbers.{octets}
use Rattle.fd_sections.specs.declared.bad.Bad.{Bad}
use Rattle.fd_sections.specs.declared.bad.Bad.TheVariants as bads
use Rattle.fd_sections.specs.Message.{IsSection, Sections, end_section, if_present}
use Rattle.fd_sections.specs.Reading.{◌>>=◌, end_at, indicator_at, section_at, local_use_at, reading, repeats}
use Rattle.fd_split.specs.Rounds.{HasRounds, IsRound, Round, Rounds, all_rounds, field_in, fields_in, forced, Force, measured, measured_all, no_force, round_octets, rounds_octets, unmapped_field}
use Rattle.fd_split.specs.Reading.{NoMap, NoMessage, Wrong, before, ends, fields_of, fields_of_rounds, fields_or, grid_at, next_round, reading_fields, reading_rounds, round_at, round_before, rounds_at, skips_grid}
use Rattle.fd_split.proofs.RoundLaws.{reading_has, round_long, rounds_step}
use Rattle.fd_split.specs.Seen.{IsWhole}
use Rattle.fd_split.proofs.Whole.{fields_whole, newer_none, own_map, some_or}

-- the same sections, in a single round
pub record IsSingle (s : Sections) (x : Rounds) : Type 0 where
  pub indicator : s.indicator ≡ x.indicator
  pub identification : s.identification ≡ x.identification
  pub none : x.others ≡ []
  pub local_use : s.local_use ≡ x.first.local_use
  pub grid : Some s.grid ≡ x.first.grid
  pub product : s.product ≡ x.first.product
  pub representation : s.representation ≡ x.first.representation
  pub bit_map : s.bit_map ≡ x.first.bit_map
  pub values : s.values ≡ x.first.values

-- what is read as a message, beside what is read of its rounds
abbrev pub Agree : Result Sections Bad → Result Rounds Bad → Type 0
Agree (Ok s) (Ok x) = IsSingle s x
Agree (Ok s) (Err bad) = ⊥
Agree (Err (bads.MultiField section)) r = Unit {0}
Agree (Err (bads.Edition edition)) r = r ≡ Err (bads.Edition edition)
Agree (Err (bads.Length said found)) r = r ≡ Err (bads.Length said found)
Agree (Err (bads.Section want found)) r = r ≡ Err (bads.Section want found)
Agree (Err (bads.Short section len)) r = r ≡ Err (bads.Short section len)
Agree (Err (bads.NoEnd at)) r = r ≡ Err (bads.NoEnd at)
Agree (Err (bads.TooLong len)) r = r ≡ Err (bads.TooLong len)
Agree (Err bads.NoStart) r = r ≡ Err bads.NoStart
Agree (Err (bads.Over section said left)) r = r ≡ Err (bads.Over section said left)

both_fail : (bad : Bad) → Agree (Err bad) (Err bad)
both_fail (bads.Edition edition) = refl
both_fail (bads.Length said found) = refl
both_fail (bads.Section want found) = refl
both_fail (bads.Short section len) = refl
both_fail (bads.NoEnd at) = refl
both_fail (bads.MultiField section) = tt
both_fail (bads.TooLong len) = refl
both_fail bads.NoStart = refl
both_fail (bads.Over section said left) = refl

-- one step before others
step : {A : Type 0} (r : Result A Bad) (f : A → Result Sections Bad) (g : A → Result Rounds Bad) → ((x : A) → Agree (f x) (g x)) → Agree (r >>= f) (r >>= g)
step (Ok x) f g h = h x
step (Err bad) f g h = both_fail bad

-- the same, where the steps of the round come before what follows it
inner : {A B : Type 0} (r : Result A Bad) (f : A → Result Sections Bad) (g : A → Result B Bad) (k : B → Result Rounds Bad) → ((x : A) → Agree (f x) (g x >>= k)) → Agree (r >>= f) ((r >>= g) >>= k)
inner (Ok x) f g k h = h x
inner (Err bad) f g k h = both_fail bad

-- section 3, which is needed
inner_grid : (rest : List ℕ) (f : List ℕ × List ℕ → Result Sections Bad) (g : Option (List ℕ) × List ℕ → Result (Round × List ℕ) Bad) (k : Round × List ℕ → Result Rounds Bad) → ((x : List ℕ × List ℕ) → Agree (f x) (g (Some x.0, x.1) >>= k)) → Agree (section_at 3 14 rest >>= f) ((grid_at true rest >>= g) >>= k)
unfolding grid_at
inner_grid rest f g k h = by (section_at 3 14 rest)
  where
    by : (r : Result (List ℕ × List ℕ) Bad) → Agree (r >>= f) (((r >>= λ s. Ok (Some s.0, s.1)) >>= g) >>= k)
    by (Ok x) = h x
    by (Err bad) = both_fail bad

abbrev message_of : List ℕ → List ℕ → Option (List ℕ) → List ℕ → List ℕ → List ℕ → List ℕ → List ℕ → Sections
message_of s0 s1 s2 s3 s4 s5 s6 s7 = record { indicator = s0; identification = s1; local_use = s2; grid = s3; product = s4; representation = s5; bit_map = s6; values = s7 }

abbrev single_of : List ℕ → List ℕ → Option (List ℕ) → List ℕ → List ℕ → List ℕ → List ℕ → List ℕ → List Round → Rounds
single_of s0 s1 s2 s3 s4 s5 s6 s7 rs = record { indicator = s0; identification = s1; first = record { local_use = s2; grid = Some s3; product = s4; representation = s5; bit_map = s6; values = s7 }; others = rs }

abbrev done : Result (Unit {0}) Bad
done = Ok tt

last : (total : ℕ) (rest : List ℕ) (s0 s1 : List ℕ) (s2 : Option (List ℕ)) (s3 s4 s5 s6 s7 : List ℕ)
    → Agree (end_at (total - length rest) rest >>= λ x. Ok (message_of s0 s1 s2 s3 s4 s5 s6 s7)) (rounds_at total rest >>= λ rs. Ok (single_of s0 s1 s2 s3 s4 s5 s6 s7 rs))
unfolding end_at
last total rest s0 s1 s2 s3 s4 s5 s6 s7 = subst (λ (r : Result (List Round) Bad). Agree (end_at (total - length rest) rest >>= λ x. Ok (message_of s0 s1 s2 s3 s4 s5 s6 s7)) (r >>= λ rs. Ok (single_of s0 s1 s2 s3 s4 s5 s6 s7 rs))) (sym (rounds_step total rest)) (by (ends rest) (repeats rest))
  where
    by : (a b : Bool) → Agree (cond a done (cond b (Err (bads.MultiField (octets 5 5 rest))) (Err (bads.NoEnd (total - length rest)))) >>= λ x. Ok (message_of s0 s1 s2 s3 s4 s5 s6 s7)) (cond a (Ok []) (cond b (round_before (round_at false rest) (rounds_at total)) (Err (bads.NoEnd (total - length rest)))) >>= λ rs. Ok (single_of s0 s1 s2 s3 s4 s5 s6 s7 rs))
    by true b = record { indicator = refl; identification = refl; none = refl; local_use = refl; grid = refl; product = refl; representation = refl; bit_map = refl; values = refl }
    by false true = tt
    by false false = refl

pub agree : (m : List ℕ) → Agree (reading m) (reading_rounds m)
unfolding reading reading_rounds round_at
agree m =
    step (indicator_at m) _ _ (λ s0.
    step (section_at 1 21 s0.1) _ _ (λ s1.
    inner (local_use_at s1.1) _ _ _ (λ s2.
    inner_grid s2.1 _ _ _ (λ s3.
    inner (section_at 4 9 s3.1) _ _ _ (λ s4.
    inner (section_at 5 11 s4.1) _ _ _ (λ s5.
    inner (section_at 6 6 s5.1) _ _ _ (λ s6.
    inner (section_at 7 5 s6.1) _ _ _ (λ s7.
    last (length m) s7.1 s0.0 s1.0 s2.0 s3.0 s4.0 s5.0 s6.0 s7.0))))))))

-- ---- what is read of a message

one_round : (s0 s1 : List ℕ) (r : Round) → unmapped_field (r ∷ []) ≡ None
one_round s0 s1 r = refl

abbrev read_fields : List Sections → Result (List Sections) Wrong
read_fields fs = Ok fs

single_field : (s : Sections) (x : Rounds) → IsSingle s x → fields_of_rounds x ≡ Ok (s ∷ [])
single_field s x is =
    let rounds : all_rounds x ≡ x.first ∷ [] = ap (λ (rs : List Round). x.first ∷ rs) is.none in
    let grid : unwrap_or x.first.grid [] ≡ s.grid = ap (λ (o : Option (List ℕ)). unwrap_or o []) (sym is.grid) in
    ap (λ (rs : List Round). fields_or (unmapped_field rs) (measured_all (fields_in x.indicator x.identification no_force rs))) rounds
    ∙ ap (λ (t : Sections). read_fields (t ∷ [])) (
    ap (λ (o : Option (List ℕ)). message_of x.indicator x.identification o (unwrap_or x.first.grid []) x.first.product x.first.representation (Rattle.fd_split.specs.Rounds.map_of no_force x.first) x.first.values) (newer_none x.first.local_use ∙ sym is.local_use)
    ∙ ap (λ (g : List ℕ). message_of x.indicator x.identification s.local_use g x.first.product x.first.representation (Rattle.fd_split.specs.Rounds.map_of no_force x.first) x.first.values) grid
    ∙ ap (λ (t : List ℕ). message_of x.indicator x.identification s.local_use s.grid x.first.product x.first.representation t x.first.values) (own_map (Rattle.fd_split.specs.Rounds.repeats_map x.first.bit_map) x.first.bit_map ∙ sym is.bit_map)
    ∙ ap (λ (t : List ℕ). message_of t x.identification s.local_use s.grid x.first.product x.first.representation s.bit_map x.first.values) (sym is.indicator)
    ∙ ap (λ (t : List ℕ). message_of s.indicator t s.local_use s.grid x.first.product x.first.representation s.bit_map x.first.values) (sym is.identification)
    ∙ ap (λ (t : List ℕ). message_of s.indicator s.identification s.local_use s.grid t x.first.representation s.bit_map x.first.values) (sym is.product)
    ∙ ap (λ (t : List ℕ). message_of s.indicator s.identification s.local_use s.grid s.product t s.bit_map x.first.values) (sym is.representation)
    ∙ ap (λ (t : List ℕ). message_of s.indicator s.identification s.local_use s.grid s.product s.representation s.bit_map t) (sym is.values))

agreed : (s : Sections) (r : Result Rounds Bad) → Agree (Ok s) r → fields_of r ≡ Ok (s ∷ [])
agreed s (Ok x) a = single_field s x a
agreed s (Err bad) a = absurd a

-- a message is its only field
pub read_single : (m : List ℕ) (s : Sections) → reading m ≡ Ok s → reading_fields m ≡ Ok (s ∷ [])
read_single m s e = agreed s (reading_rounds m) (subst (λ (r : Result Sections Bad). Agree r (reading_rounds m)) e (agree m))

-- sections are repeated
abbrev pub IsMulti : Bad → Type 0
IsMulti (bads.MultiField section) = Unit {0}
IsMulti bad = ⊥

failed : (bad : Bad) (r : Result Rounds Bad) → (IsMulti bad → ⊥) → Agree (Err bad) r → fields_of r ≡ Err (NoMessage bad)
failed (bads.Edition edition) r not a = ap fields_of a
failed (bads.Length said found) r not a = ap fields_of a
failed (bads.Section want found) r not a = ap fields_of a
failed (bads.Short section len) r not a = ap fields_of a
failed (bads.NoEnd at) r not a = ap fields_of a
failed (bads.MultiField section) r not a = absurd (not tt)
failed (bads.TooLong len) r not a = ap fields_of a
failed bads.NoStart r not a = ap fields_of a
failed (bads.Over section said left) r not a = ap fields_of a

-- and what is refused for another reason than repeated sections is refused so
pub read_refused : (m : List ℕ) (bad : Bad) → reading m ≡ Err bad → (IsMulti bad → ⊥) → reading_fields m ≡ Err (NoMessage bad)
read_refused m bad e not = failed bad (reading_rounds m) not (subst (λ (r : Result Sections Bad). Agree r (reading_rounds m)) e (agree m))

-- ---- how many fields there are

fields_long : (s0 s1 : List ℕ) (f : Force) (rs : List Round) → length (fields_in s0 s1 f rs) ≡ length rs
fields_long s0 s1 f [] = refl
fields_long s0 s1 f (r ∷ rs) = omega (arith, fields_long s0 s1 (forced f r) rs)

measured_long : (fs : List Sections) → length (measured_all fs) ≡ length fs
measured_long [] = refl
measured_long (f ∷ []) = refl
measured_long (f ∷ g ∷ fs) = length-map (f ∷ g ∷ fs) measured

rounds_long : (rs : List Round) → All IsRound rs → 31 * length rs ≤ length (rounds_octets rs)
rounds_long [] all = omega arith
rounds_long (r ∷ rs) all =
    let is = All-head IsRound r rs all in
    let a = is.product.long in
    let b = is.representation.long in
    let c = is.bit_map.long in
    let d = is.values.long in
    omega (arith, rounds_long rs (All-tail IsRound r rs all), length-append (round_octets r) (rounds_octets rs), round_long r, a, b, c, d)

few_rounds : (m : List ℕ) (x : Rounds) → HasRounds m x → 31 * length (all_rounds x) ≤ length m
few_rounds m x h =
    omega (
      arith,
      rounds_long (all_rounds x) h.rounds,
      ap length h.whole,
      length-append x.indicator (x.identification ++ (rounds_octets (all_rounds x) ++ end_section)),
      length-append x.identification (rounds_octets (all_rounds x) ++ end_section),
      length-append (rounds_octets (all_rounds x)) end_section,
    )

-- the rounds of a message that is split
pub record Split (m : List ℕ) (fs : List Sections) : Type 0 where
  pub rounds : Rounds
  pub read : reading_rounds m ≡ Ok rounds
  pub mapped : unmapped_field (all_rounds rounds) ≡ None
  pub fields_are : measured_all (fields_in rounds.indicator rounds.identification no_force (all_rounds rounds)) ≡ fs

pub split_of : (m : List ℕ) (fs : List Sections) → reading_fields m ≡ Ok fs → Split m fs
split_of m fs e = by (reading_rounds m) refl e
  where
    ok_of : (o : Option ℕ) (gs : List Sections) → fields_or o gs ≡ Ok fs → (o ≡ None) × (gs ≡ fs)
    ok_of None gs e = (refl, cc)
    ok_of (Some n) gs e = absurd cc

    by : (r : Result Rounds Bad) → reading_rounds m ≡ r → fields_of r ≡ Ok fs → Split m fs
    by (Ok x) is e = let t = ok_of (unmapped_field (all_rounds x)) (measured_all (fields_in x.indicator x.identification no_force (all_rounds x))) e in record { rounds = x; read = is; mapped = t.0; fields_are = t.1 }
    by (Err bad) is e = absurd cc

pub all_whole : (m : List ℕ) (fs : List Sections) → reading_fields m ≡ Ok fs → All IsWhole fs
all_whole m fs e = let t = split_of m fs e in subst (All IsWhole) t.fields_are (fields_whole m t.rounds (reading_has m t.rounds t.read))

pub few_fields : (m : List ℕ) (fs : List Sections) → reading_fields m ≡ Ok fs → (31 * length fs ≤ length m) × (0 < length fs)
few_fields m fs e =
    let t = split_of m fs e in
    let x = t.rounds in
    let few = few_rounds m x (reading_has m x t.read) in
    let long = fields_long x.indicator x.identification no_force (all_rounds x) in
    let all = measured_long (fields_in x.indicator x.identification no_force (all_rounds x)) in
    let same = ap length t.fields_are in
    (omega (arith, few, long, all, same), omega (arith, long, all, same))
