-- The rounds of each message are read.
use Rattle.std.proofs.Common.{◌≡◌, ℕ, ◌+◌, ◌-◌, ◌<◌, ◌≤◌, Bool, true, false, cond, not, List, [], ◌∷◌, ◌++◌, length, take, Option, Some, None, Result, Ok, Err, All, refl, sym, ap, subst, ◌∙◌, append_assoc, arith, length-append, leb, eqb, lit≤}
use Rattle.std.specs.Prelude.{IfSome, IsSome, ◌&&◌, ◌||◌, is_some, nat_eq}
use Rattle.std.specs.List.{starts_with}
use Rattle.std.proofs.lemmas.Bool.{eq-eqb, le-leb}
use Rattle.std.proofs.lemmas.Bool.Decides.{nat_tests}
use Rattle.std.proofs.lemmas.List.Elements.{All-head, All-tail}
use Rattle.fd_bytes.specs.Numbers.{octets}
use Rattle.fd_bytes.proofs.Octets.{octets-append, octets-take}
use Rattle.fd_sections.specs.declared.bad.Bad.{Bad}
use Rattle.fd_sections.specs.declared.bad.Bad.TheVariants.{NoEnd}
use Rattle.fd_sections.specs.Message.{IsIndicator, IsSection, end_section, if_present}
use Rattle.fd_sections.specs.Reading.{◌>>=◌, indicator_at, section_at, local_use_at, repeats}
use Rattle.fd_sections.proofs.SectionLaws.{indicator_again, same_from_pointwise, section_again}
use Rattle.fd_split.specs.Rounds.{HasRounds, IsRound, Round, Rounds, all_rounds, round_octets, rounds_octets}
use Rattle.fd_split.specs.Reading.{before, ends, grid_at, next_round, reading_rounds, round_at, round_before, rounds_at, skips_grid}
use Rattle.fd_split.proofs.RoundLaws.{round_long, rounds_step, six}

-- ---- a section at the front

five : (number least : ℕ) (s after : List ℕ) → IsSection number least s → octets 5 5 (s ++ after) ≡ number
five number least s after is = octets-append 5 5 s after (omega arith) (omega arith) is.header ∙ is.number_is

long : (number least : ℕ) (s after : List ℕ) → IsSection number least s → leb 5 (length (s ++ after)) ≡ true
long number least s after is = le-leb _ _ (omega (arith, is.header, length-append s after))

ended_at : (xs : List ℕ) → starts_with nat_eq xs end_section ≡ true → 4 ≤ length xs → octets 1 4 xs ≡ 926365495
ended_at xs e fits =
    let same : take 4 xs ≡ end_section = sym (same_from_pointwise end_section (take 4 xs) e) in
    sym (octets-take 1 4 4 xs (omega arith) (omega arith) (omega arith) fits) ∙ ap (octets 1 4) same

-- a section of a message is no end of it
no_end : (number least : ℕ) (s after : List ℕ) → IsSection number least s → length s ≤ 134217728 → starts_with nat_eq (s ++ after) end_section ≡ false
no_end number least s after is few = by (starts_with nat_eq (s ++ after) end_section) refl
  where
    by : (b : Bool) → starts_with nat_eq (s ++ after) end_section ≡ b → b ≡ false
    by true e =
        let header = is.header in
        let n : octets 1 4 (s ++ after) ≡ 926365495 = ended_at (s ++ after) e (omega (arith, header, length-append s after)) in
        let size : octets 1 4 (s ++ after) ≡ length s = octets-append 1 4 s after (omega arith) (omega arith) (omega (arith, header)) ∙ is.size in
        absurd (omega (arith, n, size, few))
    by false e = refl

-- ---- one round

local_use_none : (number least : ℕ) (s after : List ℕ) → IsSection number least s → eqb number 2 ≡ false → local_use_at (s ++ after) ≡ Ok (None, s ++ after)
unfolding local_use_at
local_use_none number least s after is other = rw (five number least s after is, long number least s after is, other) refl

local_use_some : (s after : List ℕ) → IsSection 2 5 s → local_use_at (s ++ after) ≡ Ok (Some s, after)
unfolding local_use_at
local_use_some s after is = rw (five 2 5 s after is, long 2 5 s after is, section_again 2 5 s after is) refl

grid_some : (needed : Bool) (s after : List ℕ) → IsSection 3 14 s → grid_at needed (s ++ after) ≡ Ok (Some s, after)
unfolding grid_at
grid_some true s after is = rw (section_again 3 14 s after is) refl
grid_some false s after is = rw (five 3 14 s after is, long 3 14 s after is, section_again 3 14 s after is) refl

grid_none : (s after : List ℕ) → IsSection 4 9 s → grid_at false (s ++ after) ≡ Ok (None, s ++ after)
unfolding grid_at
grid_none s after is = rw (five 4 9 s after is, long 4 9 s after is) refl

or_true : (b : Bool) → (b || true) ≡ true
or_true true = refl
or_true false = refl

-- the round with these two sections, as it is read
abbrev ReadSo : Bool → Option (List ℕ) → Option (List ℕ) → Round → List ℕ → Type 0
ReadSo first o g r after =
    round_at first (if_present o ++ (if_present g ++ (r.product ++ (r.representation ++ (r.bit_map ++ (r.values ++ after))))))
    ≡ Ok (record { local_use = o; grid = g; product = r.product; representation = r.representation; bit_map = r.bit_map; values = r.values }, after)

round_by : (first : Bool) (o g : Option (List ℕ)) (r : Round) (after : List ℕ) → IsRound r → IfSome o (IsSection 2 5) → IfSome g (IsSection 3 14) → (g ≡ None → o ≡ None) → (first ≡ true → IsSome g) → ReadSo first o g r after
unfolding round_at
round_by first None None r after is a b order needed = by first needed
  where
    r7 : List ℕ
    r7 = r.values ++ after

    r6 : List ℕ
    r6 = r.bit_map ++ r7

    r5 : List ℕ
    r5 = r.representation ++ r6

    by : (first : Bool) → (first ≡ true → (let none : Option (List ℕ) = None in IsSome none)) → ReadSo first None None r after
    by true needed = absurd (let x : false ≡ true = needed refl in cc)
    by false needed =
        rw (local_use_none 4 9 r.product r5 is.product refl, grid_none r.product r5 is.product, section_again 4 9 r.product r5 is.product, section_again 5 11 r.representation r6 is.representation, section_again 6 6 r.bit_map r7 is.bit_map, section_again 7 5 r.values after is.values) refl
round_by first None (Some s) r after is a b order needed =
    let r7 = r.values ++ after in
    let r6 = r.bit_map ++ r7 in
    let r5 = r.representation ++ r6 in
    let r4 = r.product ++ r5 in
    rw (local_use_none 3 14 s r4 b refl, grid_some (first || false) s r4 b, section_again 4 9 r.product r5 is.product, section_again 5 11 r.representation r6 is.representation, section_again 6 6 r.bit_map r7 is.bit_map, section_again 7 5 r.values after is.values) refl
round_by first (Some l) None r after is a b order needed = absurd (let e = order refl in cc)
round_by first (Some l) (Some s) r after is a b order needed =
    let r7 = r.values ++ after in
    let r6 = r.bit_map ++ r7 in
    let r5 = r.representation ++ r6 in
    let r4 = r.product ++ r5 in
    rw (local_use_some l (s ++ r4) a, grid_some (first || true) s r4 b, section_again 4 9 r.product r5 is.product, section_again 5 11 r.representation r6 is.representation, section_again 6 6 r.bit_map r7 is.bit_map, section_again 7 5 r.values after is.values) refl

round_again : (first : Bool) (r : Round) (after : List ℕ) → IsRound r → (first ≡ true → IsSome r.grid) → round_at first (round_octets r ++ after) ≡ Ok (r, after)
round_again first r after is needed =
    ap (round_at first) (sym (six (if_present r.local_use) (if_present r.grid) r.product r.representation r.bit_map r.values after))
    ∙ round_by first r.local_use r.grid r after is is.local_use is.grid is.order needed

-- ---- one round behind another

record Begins (rest : List ℕ) : Type 0 where
  more : ends rest ≡ false
  again : repeats rest ≡ true

begins_by : (number least : ℕ) (s after : List ℕ) → IsSection number least s → leb 2 number ≡ true → leb number 4 ≡ true → length s ≤ 134217728 → Begins (s ++ after)
begins_by number least s after is low high few =
    let a = no_end number least s after is few in
    let b = five number least s after is in
    let c = long number least s after is in
    record { more = rw a refl; again = rw (a, b, c, low, high) refl }

begins : (r : Round) (after : List ℕ) → IsRound r → length (round_octets r) ≤ 134217728 → Begins (round_octets r ++ after)
begins r after is few = subst Begins (six (if_present r.local_use) (if_present r.grid) r.product r.representation r.bit_map r.values after) (by r.local_use refl r.grid refl)
  where
    size : length (round_octets r) ≡ length (if_present r.local_use) + (length (if_present r.grid) + (length r.product + (length r.representation + (length r.bit_map + length r.values))))
    size = round_long r

    rest : List ℕ
    rest = r.product ++ (r.representation ++ (r.bit_map ++ (r.values ++ after)))

    by : (o : Option (List ℕ)) → r.local_use ≡ o → (g : Option (List ℕ)) → r.grid ≡ g → Begins (if_present o ++ (if_present g ++ rest))
    by (Some s) e g f = begins_by 2 5 s (if_present g ++ rest) (subst (λ x. IfSome x (IsSection 2 5)) e is.local_use) refl refl (let same = ap (λ x. length (if_present x)) e in omega (arith, same, size, few))
    by None e (Some s) f = begins_by 3 14 s rest (subst (λ x. IfSome x (IsSection 3 14)) f is.grid) refl refl (let same = ap (λ x. length (if_present x)) f in omega (arith, same, size, few))
    by None e None f = begins_by 4 9 r.product (r.representation ++ (r.bit_map ++ (r.values ++ after))) is.product refl refl (omega (arith, size, few))

rounds_again : (total : ℕ) (rs : List Round) → All IsRound rs → length (rounds_octets rs) ≤ 134217728 → rounds_at total (rounds_octets rs ++ end_section) ≡ Ok rs
rounds_again total [] all few = rounds_step total end_section
rounds_again total (r ∷ rs) all few =
    let rest = rounds_octets rs ++ end_section in
    let is = All-head IsRound r rs all in
    let size = length-append (round_octets r) (rounds_octets rs) in
    let here = begins r rest is (omega (arith, size, few)) in
    let others = rounds_again total rs (All-tail IsRound r rs all) (omega (arith, size, few)) in
    let more = here.more in
    let again = here.again in
    ap (rounds_at total) (append_assoc (round_octets r) (rounds_octets rs) end_section)
    ∙ rounds_step total (round_octets r ++ rest)
    ∙ rw (more, again, round_again false r rest is (λ e. absurd cc)) (ap (before r) others)

-- ---- the whole

read_at : (m s0 s1 : List ℕ) (first : Round) (others : List Round) → IsIndicator (length (s0 ++ (s1 ++ (round_octets first ++ (rounds_octets others ++ end_section))))) s0 → IsSection 1 21 s1 → IsSome first.grid → IsRound first → All IsRound others
    → reading_rounds (s0 ++ (s1 ++ (round_octets first ++ (rounds_octets others ++ end_section)))) ≡ Ok (record { indicator = s0; identification = s1; first = first; others = others })
unfolding reading_rounds
read_at m s0 s1 first others head one grid is all =
    let r3 = rounds_octets others ++ end_section in
    let r2 = round_octets first ++ r3 in
    let r1 = s1 ++ r2 in
    let limit = head.limit in
    let few : length (rounds_octets others) ≤ 134217728 = omega (arith, limit, length-append s0 r1, length-append s1 r2, length-append (round_octets first) r3, length-append (rounds_octets others) end_section) in
    rw (indicator_again s0 r1 head, section_again 1 21 s1 r2 one, round_again true first r3 is (λ e. grid), rounds_again (length (s0 ++ r1)) others all few) refl

pub reading_of : (m : List ℕ) (x : Rounds) → HasRounds m x → reading_rounds m ≡ Ok x
reading_of m x h =
    let whole : m ≡ x.indicator ++ (x.identification ++ (round_octets x.first ++ (rounds_octets x.others ++ end_section))) =
    h.whole ∙ ap (λ (t : List ℕ). x.indicator ++ (x.identification ++ t)) (append_assoc (round_octets x.first) (rounds_octets x.others) end_section) in
    ap reading_rounds whole
    ∙ read_at m x.indicator x.identification x.first x.others (subst (λ (t : List ℕ). IsIndicator (length t) x.indicator) whole h.indicator) h.identification h.grid (All-head IsRound x.first x.others h.rounds) (All-tail IsRound x.first x.others h.rounds)
