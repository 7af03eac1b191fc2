-- A batch that is full has at least 512 pairs, and one without pairs isn't full.
use Rattle.std.proofs.Common.{◌≡◌, ◌⊎◌, inl, inr, ℕ, suc, ◌+◌, ◌*◌, ◌<◌, ◌≤◌, Bool, true, false, ◌&&◌, ◌||◌, if◌then◌else◌, List, [], ◌∷◌, length, bytes_eq, Some, is_some, Result, Ok, Err, refl, sym, ap, ◌∙◌, arith}
use Rattle.std.specs.Prelude.{nat_lt, nat_le}
use Rattle.std.proofs.lemmas.List.Sums.{sum_by-cons}
use Rattle.std.proofs.lemmas.Bool.{leb-false, ltb-false, lt-ltb, le-leb}
use Rattle.fd_entries.specs.declared.batch.Pair.{Pair}
use Rattle.fd_entries.specs.Batches.{KeysFit, distinct, has_key, same_bytes}
use Rattle.fd_index.specs.declared.fault.Full.{Full}
use Rattle.fd_index.specs.Builder.{has_room, room_for}
use Rattle.fd_index.specs.Held.{Held, key_bytes, left_of}
use Rattle.fd_index.specs.Records.{Record, StandsFor, place_of}
use Rattle.fd_segment.specs.Filling.{places_from}
use Rattle.fd_segment.proofs.Keys.{eq_is, newest_last, same_as_eq, true_or_false}
use Rattle.fd_segment.proofs.Counting.{no_pairs, places_has, records_count}

either_true : (x y : Bool) → (x || y) ≡ true → (x ≡ true) ⊎ (y ≡ true)
either_true true y e = inl refl
either_true false y e = inr e

fits_key : (b : List Pair) (key : List ℕ) → KeysFit b → has_key b key ≡ true → length key ≤ 256
fits_key [] key fit is = absurd (cc is)
fits_key (p ∷ ps) key fit is = elim (either_true (same_bytes p.key key) (has_key ps key) is) [
  | inl here ↦
      let same : key ≡ p.key = eq_is key p.key (sym (same_as_eq p.key key) ∙ here) in
      omega (arith, fit.0, ap length same)
  | inr there ↦ fits_key ps key fit.1 there
]

few_bytes : (rs : List Record) → ((key : List ℕ) → is_some (place_of key rs) ≡ true → length key ≤ 256) → key_bytes rs ≤ 256 * length rs
few_bytes [] fit = omega arith
few_bytes (r ∷ rs) fit =
    let rest = few_bytes rs (λ key is. fit key (behind key (bytes_eq key r.key) is)) in
    let one = fit r.key (first (bytes_eq r.key r.key) (itself r.key)) in
    omega (arith, rest, one, sum_by-cons (λ (x : Record). length x.key) r rs)
  where
    behind : (key : List ℕ) (e : Bool) → is_some (place_of key rs) ≡ true → is_some (if e then Some (r.at, r.len) else place_of key rs) ≡ true
    behind key true is = refl
    behind key false is = is

    itself : (key : List ℕ) → bytes_eq key key ≡ true
    itself key = Rattle.fd_segment.proofs.Keys.eq_refl key

    first : (e : Bool) → e ≡ true → is_some (if e then Some (r.at, r.len) else place_of r.key rs) ≡ true
    first true is = refl
    first false is = absurd (cc is)

distinct_few : (b : List Pair) → distinct b ≤ length b
distinct_few [] = omega arith
distinct_few (p ∷ ps) = go (has_key ps p.key) (distinct_few ps)
  where
    go : (h : Bool) → distinct ps ≤ length ps → (if h then 0 else 1) + distinct ps ≤ suc (length ps)
    go true le = omega (arith, le)
    go false le = omega (arith, le)

abbrev answer_of : Held → Bool → Result (Unit {0}) Full
answer_of held b = if b then Ok tt else Err (record { keys = length held.records; left = left_of held })

no_room : (held : Held) (key : List ℕ) (full : Full) → room_for held key ≡ Err full → has_room held key ≡ false
no_room held key full e = go (has_room held key) e
  where
    go : (b : Bool) → answer_of held b ≡ Err full → b ≡ false
    go true e = absurd (cc e)
    go false e = refl

short_of : (a b c : Bool) → (a || (b && c)) ≡ false → (b ≡ false) ⊎ (c ≡ false)
short_of true b c e = absurd (cc e)
short_of false true c e = inr e
short_of false false c e = inl refl

-- where a key has no room, at least 512 pairs were put
pub filled : (held : Held) (key : List ℕ) (full : Full) (b : List Pair) → held.keys ≡ 2048 → held.bytes ≡ 131072 → length key ≤ 256 → room_for held key ≡ Err full → StandsFor (places_from 0 b) held.records → KeysFit b → 512 ≤ length b
filled held key full b keys bytes short e stands fit =
    let same : (k : List ℕ) → is_some (place_of k held.records) ≡ has_key b k = λ k. ap is_some (stands.newest k ∙ newest_last k (places_from 0 b)) ∙ places_has 0 b k in
    let small = few_bytes held.records (λ k is. fits_key b k fit (sym (same k) ∙ is)) in
    let count = records_count b held.records stands in
    let few = distinct_few b in
    elim (short_of (is_some (place_of key held.records)) (nat_lt (length held.records) held.keys) (nat_le (length key) (left_of held)) (no_room held key full e)) [
      | inl many ↦ let m = ltb-false (length held.records) held.keys many in omega (arith, m, keys, count, few)
      | inr long ↦ let l = leb-false (length key) (left_of held) long in omega (arith, l, keys, bytes, short, small, count, few)
    ]

-- a key has room where nothing was put
pub room_at_first : (held : Held) (key : List ℕ) (full : Full) → held.keys ≡ 2048 → held.bytes ≡ 131072 → length key ≤ 256 → StandsFor (places_from 0 []) held.records → room_for held key ≡ Err full → ⊥
room_at_first held key full keys bytes short stands e =
    let none = no_pairs [] held.records stands refl in
    let gone = no_records_left held.records none in
    let some : length held.records < held.keys = omega (arith, none, keys) in
    let fits : length key ≤ left_of held = omega (arith, short, bytes, ap key_bytes gone) in
    elim (short_of (is_some (place_of key held.records)) (nat_lt (length held.records) held.keys) (nat_le (length key) (left_of held)) (no_room held key full e)) [
      | inl many ↦ absurd (cc (many, lt-ltb (length held.records) held.keys some))
      | inr long ↦ absurd (cc (long, le-leb (length key) (left_of held) fits))
    ]
  where
    no_records_left : (rs : List Record) → length rs ≡ 0 → rs ≡ []
    no_records_left [] is = refl
    no_records_left (r ∷ rs) is = absurd (omega (arith, is))
