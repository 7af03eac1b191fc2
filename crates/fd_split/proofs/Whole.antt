-- Each field is a message.
use Rattle.std.proofs.Common.{◌≡◌, ℕ, suc, ◌+◌, ◌-◌, ◌<◌, ◌≤◌, ◌^◌, Bool, true, false, cond, not, List, [], ◌∷◌, ◌++◌, length, take, map, Option, Some, None, Result, Ok, Err, All, refl, sym, ap, subst, ◌∙◌, append_assoc, append-nil, arith, length-append, length-take, lit≤}
use Rattle.std.specs.Prelude.{IfSome, IsSome, ◌&&◌, is_some, is_none, unwrap_or, nat_eq}
use Rattle.std.specs.List.{starts_with}
use Rattle.std.specs.Int.{bytes_high_first}
use Rattle.std.proofs.lemmas.List.Elements.{All-cons, All-head, All-map, All-nil, All-tail, All-weaker}
use Rattle.byteorder.specs.Endian.{big_bytes, big_from}
use Rattle.byteorder.specs.Numbers.{big_from-cons, big_number-reads_back, length-bytes_high_first}
use Rattle.fd_bytes.specs.Numbers.{octets}
use Rattle.fd_bytes.proofs.Octets.{octets-append, octets-take, starts_with-append, starts_with-take}
use Rattle.fd_sections.specs.Message.{IsIndicator, IsMessage, IsSection, Sections, end_section, grib, if_present, message_octets}
use Rattle.fd_split.specs.Rounds.{Force, HasRounds, IsRound, Round, Rounds, all_rounds, field_in, fields_in, forced, has_map, map_of, measured, measured_all, newer, no_force, repeats_map, round_octets, rounds_octets}
use Rattle.fd_split.specs.Seen.{IsWhole}
use Rattle.fd_split.proofs.RoundLaws.{round_long}

-- ---- a field with its own length

-- the octets behind others
behind_is : (xs ys : List ℕ) (n : ℕ) → big_from (length xs) n (xs ++ ys) ≡ big_from 0 n ys
behind_is [] ys n = refl
behind_is (x ∷ xs) ys n = big_from-cons (length xs) n x (xs ++ ys) ∙ behind_is xs ys n

-- section 0 of a message, and the other sections
pub record IsMeasurable (s : Sections) : Type 0 where
  pub size : length s.indicator ≡ 16
  pub mark : starts_with nat_eq s.indicator grib ≡ true
  pub edition : octets 8 8 s.indicator ≡ 2
  pub identification : IsSection 1 21 s.identification
  pub local_use : IfSome s.local_use (IsSection 2 5)
  pub grid : IsSection 3 14 s.grid
  pub product : IsSection 4 9 s.product
  pub representation : IsSection 5 11 s.representation
  pub bit_map : IsSection 6 6 s.bit_map
  pub values : IsSection 7 5 s.values
  pub limit : length (message_octets s) ≤ 134217728

abbrev behind_indicator : Sections → List ℕ
behind_indicator s = s.identification ++ (if_present s.local_use ++ (s.grid ++ (s.product ++ (s.representation ++ (s.bit_map ++ (s.values ++ end_section))))))

pub measured_whole : (s : Sections) → IsMeasurable s → IsWhole (measured s)
measured_whole s is =
    let n = length (message_octets s) in
    let front = take 8 s.indicator in
    let own = big_bytes 8 n in
    let limit = is.limit in
    let size = is.size in
    let eight : length own ≡ 8 = length-bytes_high_first 8 n in
    let front_long : length front ≡ 8 = omega (arith, length-take 8 s.indicator, size) in
    let sixteen : length (front ++ own) ≡ 16 = omega (arith, length-append front own, front_long, eight) in
    let same : length (message_octets (measured s)) ≡ n = omega (arith, length-append (front ++ own) (behind_indicator s), length-append s.indicator (behind_indicator s), sixteen, size) in
    let number : octets 9 16 (front ++ own) ≡ n =
    ap (λ (k : ℕ). big_from k 8 (front ++ own)) (sym front_long)
    ∙ behind_is front own 8
    ∙ ap (big_from 0 8) (sym (append-nil own))
    ∙ big_number-reads_back 8 n [] (omega (arith, limit)) in
    record {
      whole = refl;
      indicator = record {
        size = sixteen;
        mark = starts_with-append front own grib (omega (arith, front_long)) ∙ starts_with-take 8 s.indicator grib (lit≤ tt) (omega (arith, size)) ∙ is.mark;
        edition = octets-append 8 8 front own (lit≤ tt) (lit≤ tt) (omega (arith, front_long)) ∙ octets-take 8 8 8 s.indicator (lit≤ tt) (lit≤ tt) (lit≤ tt) (omega (arith, size)) ∙ is.edition;
        total = number ∙ sym same;
        limit = omega (arith, same, limit);
      };
      identification = is.identification;
      local_use = is.local_use;
      grid = is.grid;
      product = is.product;
      representation = is.representation;
      bit_map = is.bit_map;
      values = is.values;
    }

-- ---- the fields of rounds

-- what is in force is sections
record AreSections (f : Force) : Type 0 where
  pub local_use : IfSome f.local_use (IsSection 2 5)
  pub grid : IsSection 3 14 f.grid
  pub bit_map : IfSome f.bit_map (IsSection 6 6)

-- how many octets are in force
abbrev size_of : Force → ℕ
size_of f = length (if_present f.local_use) + (length f.grid + length (if_present f.bit_map))

newer_is : (P : List ℕ → Type 0) (new old : Option (List ℕ)) → IfSome new P → IfSome old P → IfSome (newer new old) P
newer_is P None old n o = o
newer_is P (Some s) old n o = n

newer_size : (new old : Option (List ℕ)) → length (if_present (newer new old)) ≤ length (if_present new) + length (if_present old)
newer_size None old = omega arith
newer_size (Some s) old = omega arith

or_is : (P : List ℕ → Type 0) (new : Option (List ℕ)) (old : List ℕ) → IfSome new P → P old → P (unwrap_or new old)
or_is P None old n o = o
or_is P (Some s) old n o = n

some_is : (P : List ℕ → Type 0) (new : Option (List ℕ)) (old : List ℕ) → IfSome new P → IsSome new → P (unwrap_or new old)
some_is P None old n some = absurd (let is : false ≡ true = some in cc)
some_is P (Some s) old n some = n

or_size : (new : Option (List ℕ)) (old : List ℕ) → length (unwrap_or new old) ≤ length (if_present new) + length old
or_size None old = omega arith
or_size (Some s) old = omega arith

kept_is : (P : List ℕ → Type 0) (b : Bool) (s : List ℕ) (old : Option (List ℕ)) → P s → IfSome old P → IfSome (cond b (Some s) old) P
kept_is P true s old n o = n
kept_is P false s old n o = o

kept_size : (b : Bool) (s : List ℕ) (old : Option (List ℕ)) → length (if_present (cond b (Some s) old)) ≤ length s + length (if_present old)
kept_size true s old = omega arith
kept_size false s old = omega arith

own_is : (P : List ℕ → Type 0) (b : Bool) (s : List ℕ) (old : Option (List ℕ)) → P s → IfSome old P → P (cond b (unwrap_or old s) s)
own_is P true s None n o = n
own_is P true s (Some t) n o = o
own_is P false s old n o = n

own_size : (b : Bool) (s : List ℕ) (old : Option (List ℕ)) → length (cond b (unwrap_or old s) s) ≤ length s + length (if_present old)
own_size true s None = omega arith
own_size true s (Some t) = omega arith
own_size false s old = omega arith

forced_is : (f : Force) (r : Round) → IfSome f.local_use (IsSection 2 5) → IfSome f.bit_map (IsSection 6 6) → IsSection 3 14 (unwrap_or r.grid f.grid) → IsRound r → AreSections (forced f r)
forced_is f r local map grid is = record {
  local_use = newer_is (IsSection 2 5) r.local_use f.local_use is.local_use local;
  grid = grid;
  bit_map = kept_is (IsSection 6 6) (has_map r.bit_map) r.bit_map f.bit_map is.bit_map map;
}

forced_size : (f : Force) (r : Round) → size_of (forced f r) ≤ size_of f + length (round_octets r)
forced_size f r = omega (arith, newer_size r.local_use f.local_use, or_size r.grid f.grid, kept_size (has_map r.bit_map) r.bit_map f.bit_map, round_long r)

-- section 0 and section 1 of the message
pub record IsHead (s0 s1 : List ℕ) : Type 0 where
  pub size : length s0 ≡ 16
  pub mark : starts_with nat_eq s0 grib ≡ true
  pub edition : octets 8 8 s0 ≡ 2
  pub identification : IsSection 1 21 s1

parts_long : (s : Sections) → length (message_octets s) ≡ length s.indicator + (length s.identification + (length (if_present s.local_use) + (length s.grid + (length s.product + (length s.representation + (length s.bit_map + (length s.values + 4)))))))
parts_long s =
    omega (
      arith,
      length-append s.indicator (behind_indicator s),
      length-append s.identification (if_present s.local_use ++ (s.grid ++ (s.product ++ (s.representation ++ (s.bit_map ++ (s.values ++ end_section)))))),
      length-append (if_present s.local_use) (s.grid ++ (s.product ++ (s.representation ++ (s.bit_map ++ (s.values ++ end_section))))),
      length-append s.grid (s.product ++ (s.representation ++ (s.bit_map ++ (s.values ++ end_section)))),
      length-append s.product (s.representation ++ (s.bit_map ++ (s.values ++ end_section))),
      length-append s.representation (s.bit_map ++ (s.values ++ end_section)),
      length-append s.bit_map (s.values ++ end_section),
      length-append s.values end_section,
    )

one_field : (s0 s1 : List ℕ) (f : Force) (r : Round) → IsHead s0 s1 → IfSome f.local_use (IsSection 2 5) → IfSome f.bit_map (IsSection 6 6) → IsSection 3 14 (unwrap_or r.grid f.grid) → IsRound r → length s0 + (length s1 + (size_of f + (length (round_octets r) + 4))) ≤ 134217728
    → IsMeasurable (field_in s0 s1 f r)
one_field s0 s1 f r h local map grid is room = record {
  size = h.size;
  mark = h.mark;
  edition = h.edition;
  identification = h.identification;
  local_use = newer_is (IsSection 2 5) r.local_use f.local_use is.local_use local;
  grid = grid;
  product = is.product;
  representation = is.representation;
  bit_map = own_is (IsSection 6 6) (repeats_map r.bit_map) r.bit_map f.bit_map is.bit_map map;
  values = is.values;
  limit = omega (arith, parts_long (field_in s0 s1 f r), newer_size r.local_use f.local_use, or_size r.grid f.grid, own_size (repeats_map r.bit_map) r.bit_map f.bit_map, round_long r, room);
}

later_fields : (s0 s1 : List ℕ) (f : Force) (rs : List Round) → IsHead s0 s1 → AreSections f → All IsRound rs → length s0 + (length s1 + (size_of f + (length (rounds_octets rs) + 4))) ≤ 134217728 → All IsMeasurable (fields_in s0 s1 f rs)
later_fields s0 s1 f [] h are all room = All-nil IsMeasurable
later_fields s0 s1 f (r ∷ rs) h are all room =
    let is = All-head IsRound r rs all in
    let grid = or_is (IsSection 3 14) r.grid f.grid is.grid are.grid in
    let long = length-append (round_octets r) (rounds_octets rs) in
    All-cons IsMeasurable (field_in s0 s1 f r) (fields_in s0 s1 (forced f r) rs)
    (one_field s0 s1 f r h are.local_use are.bit_map grid is (omega (arith, room, long)))
    (later_fields s0 s1 (forced f r) rs h (forced_is f r are.local_use are.bit_map grid is) (All-tail IsRound r rs all) (omega (arith, room, long, forced_size f r)))

head_of : (m : List ℕ) (x : Rounds) → HasRounds m x → IsHead x.indicator x.identification
head_of m x h = record { size = h.indicator.size; mark = h.indicator.mark; edition = h.indicator.edition; identification = h.identification }

all_measurable : (m : List ℕ) (x : Rounds) → HasRounds m x → All IsMeasurable (fields_in x.indicator x.identification no_force (all_rounds x))
all_measurable m x h =
    let s0 = x.indicator in
    let s1 = x.identification in
    let r = x.first in
    let head = head_of m x h in
    let is = All-head IsRound r x.others h.rounds in
    let grid = some_is (IsSection 3 14) r.grid [] is.grid h.grid in
    let limit = h.indicator.limit in
    let a = length-append s0 (s1 ++ (rounds_octets (all_rounds x) ++ end_section)) in
    let b = length-append s1 (rounds_octets (all_rounds x) ++ end_section) in
    let c = length-append (rounds_octets (all_rounds x)) end_section in
    let d = length-append (round_octets r) (rounds_octets x.others) in
    let whole = ap length h.whole in
    All-cons IsMeasurable (field_in s0 s1 no_force r) (fields_in s0 s1 (forced no_force r) x.others)
    (one_field s0 s1 no_force r head tt tt grid is (omega (arith, limit, whole, a, b, c, d)))
    (later_fields s0 s1 (forced no_force r) x.others head (forced_is no_force r tt tt grid is) (All-tail IsRound r x.others h.rounds) (omega (arith, limit, whole, a, b, c, d, forced_size no_force r)))

-- ---- a single field is its message

pub newer_none : (o : Option (List ℕ)) → newer o None ≡ o
newer_none None = refl
newer_none (Some s) = refl

pub some_or : (o : Option (List ℕ)) → IsSome o → unwrap_or o [] ≡ if_present o
some_or None some = refl
some_or (Some s) some = refl

pub own_map : (b : Bool) (s : List ℕ) → cond b (unwrap_or None s) s ≡ s
own_map true s = refl
own_map false s = refl

behind : (front : List ℕ) {xs ys : List ℕ} → xs ≡ ys → front ++ xs ≡ front ++ ys
behind front e = ap (λ (t : List ℕ). front ++ t) e

six : (a b c d e f r : List ℕ) → (a ++ (b ++ (c ++ (d ++ (e ++ f))))) ++ r ≡ a ++ (b ++ (c ++ (d ++ (e ++ (f ++ r)))))
six a b c d e f r =
    append_assoc a (b ++ (c ++ (d ++ (e ++ f)))) r
    ∙ behind a (append_assoc b (c ++ (d ++ (e ++ f))) r
    ∙ behind b (append_assoc c (d ++ (e ++ f)) r
    ∙ behind c (append_assoc d (e ++ f) r
    ∙ behind d (append_assoc e f r))))

pub single_octets : (s0 s1 : List ℕ) (r : Round) → IsSome r.grid → message_octets (field_in s0 s1 no_force r) ≡ s0 ++ (s1 ++ (rounds_octets (r ∷ []) ++ end_section))
single_octets s0 s1 r some =
    behind s0 (behind s1 (
    ap (λ (o : Option (List ℕ)). if_present o ++ (unwrap_or r.grid [] ++ (r.product ++ (r.representation ++ (map_of no_force r ++ (r.values ++ end_section)))))) (newer_none r.local_use)
    ∙ behind (if_present r.local_use) (
    ap (λ (g : List ℕ). g ++ (r.product ++ (r.representation ++ (map_of no_force r ++ (r.values ++ end_section))))) (some_or r.grid some)
    ∙ behind (if_present r.grid) (behind r.product (behind r.representation (ap (λ (t : List ℕ). t ++ (r.values ++ end_section)) (own_map (repeats_map r.bit_map) r.bit_map)))))
    ∙ sym (six (if_present r.local_use) (if_present r.grid) r.product r.representation r.bit_map r.values end_section)
    ∙ ap (λ (t : List ℕ). t ++ end_section) (sym (append-nil (round_octets r)))))

single_whole : (m : List ℕ) (s : Sections) → m ≡ message_octets s → IsIndicator (length m) s.indicator → IsMeasurable s → IsWhole s
single_whole m s whole indicator is = record {
  whole = refl;
  indicator = subst (λ (n : ℕ). IsIndicator n s.indicator) (ap length whole) indicator;
  identification = is.identification;
  local_use = is.local_use;
  grid = is.grid;
  product = is.product;
  representation = is.representation;
  bit_map = is.bit_map;
  values = is.values;
}

pub fields_whole : (m : List ℕ) (x : Rounds) → HasRounds m x → All IsWhole (measured_all (fields_in x.indicator x.identification no_force (all_rounds x)))
fields_whole m x h = by x.others refl (all_measurable m x h)
  where
    by : (rs : List Round) → x.others ≡ rs → All IsMeasurable (fields_in x.indicator x.identification no_force (x.first ∷ rs)) → All IsWhole (measured_all (fields_in x.indicator x.identification no_force (x.first ∷ rs)))
    by [] is all =
        let s = field_in x.indicator x.identification no_force x.first in
        let octets_are : message_octets s ≡ m = single_octets x.indicator x.identification x.first h.grid ∙ ap (λ (rs : List Round). x.indicator ++ (x.identification ++ (rounds_octets (x.first ∷ rs) ++ end_section))) (sym is) ∙ sym h.whole in
        All-cons IsWhole s [] (single_whole m s (sym octets_are) h.indicator (All-head IsMeasurable s [] all)) (All-nil IsWhole)
    by (r ∷ rs) is all = All-map IsWhole measured (fields_in x.indicator x.identification no_force (x.first ∷ r ∷ rs)) (All-weaker IsMeasurable (λ (s : Sections). IsWhole (measured s)) measured_whole (fields_in x.indicator x.identification no_force (x.first ∷ r ∷ rs)) all)
