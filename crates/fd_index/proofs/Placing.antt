-- A record put at its place among records whose keys rise.
use Rattle.std.proofs.Common.{◌≡◌, ℕ, zero, suc, ◌+◌, ◌-◌, ◌/◌, ◌^◌, ◌<◌, ◌≤◌, Bool, true, not, List, [], ◌∷◌, ◌++◌, length, take, drop, get_or, map, is_some, is_ok, Option, Some, None, Result, Err, Ok, option_map, slice_get, Less, Equal, Greater, Ordering, refl, sym, ap, ◌∙◌, subst, arith, length-append}
use Rattle.std.specs.List.{insert, AllByRecursion}
use Rattle.std.specs.Prelude.{slice_set, unwrap_or}
use Rattle.std.specs.Ordering.{nat_cmp, match_ordering, ordering_reverse}
use Rattle.std.proofs.lemmas.Cmp.{nat_list_cmp_total}
use Rattle.std.specs.Cmp.Lexicographic.{slice_cmp}
use Rattle.std.proofs.lemmas.List.{length-map, length-set, map-set}
use Rattle.std.proofs.lemmas.List.Edits.{length-insert}
use Rattle.std.proofs.lemmas.Option.{slice_get-map, slice_get_read, slice_get_within}
use Rattle.fd_index.specs.Records.{AllFit, Fits, Record, Rising, StandsFor, keys, place_of}
use Rattle.fd_index.specs.Seen.{IsSound, with_record}
use Rattle.fd_index.proofs.Searching.{Between, Pair, found, gone, pair_of, pairs_of}
use Rattle.fd_index.specs.declared.slots.Slot.{Slot}
use Rattle.fd_index.specs.declared.builder.IndexBuilder.TheInside.{Inside}
use Rattle.fd_index.specs.Slots.{AreWithin, record_of, records_of}
use Rattle.fd_index.specs.Held.{key_bytes}
use Rattle.fd_region.specs.Held.{Held as Texts}
use Rattle.fd_region.specs.Placing.{Placed, holding}
use Rattle.fd_index.proofs.Putting.{bytes_with, fit_with, more_bytes, no_puts, stands_with}
use Rattle.std.specs.Vec.{vec_capacity}
use Rattle.std.specs.List.Sorted.{IsStrictlySortedBy}
use Rattle.fd_index.specs.Position.{HasKeyAt, IsPosition}

abbrev pub Under : List ℕ → List Record → ℕ → Type 0
Under key rs i = (j : ℕ) (e : Pair) → j < i → slice_get (pairs_of rs) j ≡ Some e → slice_cmp nat_cmp key e.0 ≡ Greater

abbrev pub Over : List ℕ → List Record → ℕ → Type 0
Over key rs i = (j : ℕ) (e : Pair) → i ≤ j → slice_get (pairs_of rs) j ≡ Some e → slice_cmp nat_cmp key e.0 ≡ Less

-- a new key goes before the first one that is above it
pub goes_in : (p : Record) (rs : List Record) (i : ℕ) → i ≤ length rs → Under p.key rs i → Over p.key rs i → with_record p rs ≡ insert rs i p
goes_in p [] zero le under over = refl
goes_in p [] (suc i) le under over = absurd (omega (arith, le))
goes_in p (r ∷ rs) zero le under over =
    ap (λ (o : Ordering). match_ordering o (p ∷ r ∷ rs) (record { key = r.key; at = p.at; len = p.len } ∷ rs) (r ∷ with_record p rs)) (over 0 (pair_of r) (omega arith) refl)
goes_in p (r ∷ rs) (suc i) le under over =
    ap (λ (o : Ordering). match_ordering o (p ∷ r ∷ rs) (record { key = r.key; at = p.at; len = p.len } ∷ rs) (r ∷ with_record p rs)) (under 0 (pair_of r) (omega arith) refl)
    ∙ ap (λ (t : List Record). r ∷ t) (goes_in p rs i (omega (arith, le)) (λ j e lt h. under (suc j) e (omega (arith, lt)) h) (λ j e from h. over (suc j) e (omega (arith, from)) h))

-- a key that is held takes the new place
pub goes_over : (p : Record) (rs : List Record) (i : ℕ) (r : Record) → Under p.key rs i → slice_get rs i ≡ Some r → r.key ≡ p.key → slice_cmp nat_cmp p.key r.key ≡ Equal → with_record p rs ≡ slice_set rs i p
goes_over p [] i r under at same equal = absurd (cc at)
goes_over p (s ∷ rs) zero r under at same equal =
    let is : s ≡ r = same_some s r at in
    ap (λ (o : Ordering). match_ordering o (p ∷ s ∷ rs) (record { key = s.key; at = p.at; len = p.len } ∷ rs) (s ∷ with_record p rs)) (ap (λ (x : Record). slice_cmp nat_cmp p.key x.key) is ∙ equal)
    ∙ ap (λ (k : List ℕ). record { key = k; at = p.at; len = p.len } ∷ rs) (ap (λ (x : Record). x.key) is ∙ same)
  where
    some_or : Record → Option Record → Record
    some_or d (Some x) = x
    some_or d None = d

    same_some : (a b : Record) → Some a ≡ Some b → a ≡ b
    same_some a b e = ap (some_or a) e
goes_over p (s ∷ rs) (suc i) r under at same equal =
    ap (λ (o : Ordering). match_ordering o (p ∷ s ∷ rs) (record { key = s.key; at = p.at; len = p.len } ∷ rs) (s ∷ with_record p rs)) (under 0 (pair_of s) (omega arith) refl)
    ∙ ap (λ (t : List Record). s ∷ t) (goes_over p rs i r (λ j e lt h. under (suc j) e (omega (arith, lt)) h) at same equal)

-- ---- The position of a key

pub no_position : (key : List ℕ) (rs : List Record) (low high : ℕ) → Rising rs → Between key (pairs_of rs) low high → high ≤ low → IsPosition rs key (Err low)
no_position key rs low high rising b le =
    let same : low ≡ high = omega (arith, le, b.order) in
    let within : low ≤ length rs = omega (arith, le, b.order, b.within, length-map rs pair_of) in (
      within,
      sym (gone key rs low high rising b le),
      λ at len. goes_in (record { key = key; at = at; len = len }) rs low within b.below (λ j e from h. b.above j e (omega (arith, from, same)) h),
    )

-- the keys before that of a record are below it
under_of : (rs : List Record) (m : ℕ) (r : Record) → Rising rs → slice_get rs m ≡ Some r → Under r.key rs m
unfolding IsStrictlySortedBy
under_of [] m r rising at = absurd (cc at)
under_of (s ∷ rs) zero r rising at = λ j e lt h. absurd (omega (arith, lt))
under_of (s ∷ rs) (suc m) r rising at = go (under_of rs m r rising.1 at)
  where
    pick : (xs : List Record) (n : ℕ) → AllByRecursion (λ k. slice_cmp nat_cmp s.key k ≡ Less) (keys xs) → slice_get xs n ≡ Some r → slice_cmp nat_cmp s.key r.key ≡ Less
    pick [] n all h = absurd (cc h)
    pick (x ∷ xs) zero all h = let same : x ≡ r = cc h in ap (λ (y : Record). slice_cmp nat_cmp s.key y.key) (sym same) ∙ all.0
    pick (x ∷ xs) (suc n) all h = pick xs n all.1 h

    go : Under r.key rs m → Under r.key (s ∷ rs) (suc m)
    go on zero e lt h =
        let same : pair_of s ≡ e = cc h in
        ap (λ (x : Pair). slice_cmp nat_cmp r.key x.0) (sym same) ∙ (nat_list_cmp_total.antisymm r.key s.key ∙ ap ordering_reverse (pick rs m rising.0 at))
    go on (suc j) e lt h = on j e (omega (arith, lt)) h

pub is_position : (key : List ℕ) (rs : List Record) (i : ℕ) (r : Record) → Rising rs → slice_get rs i ≡ Some r → r.key ≡ key → slice_cmp nat_cmp key r.key ≡ Equal → IsPosition rs key (Ok i)
is_position key rs i r rising there same equal = (
  slice_get_within rs i r there,
  ap is_some (sym (found key rs i r rising (slice_get-map pair_of rs i ∙ ap (option_map pair_of) there) equal)),
  record { r = r; at = there; is = same },
  λ at len. goes_over (record { key = key; at = at; len = len }) rs i r (subst (λ (k : List ℕ). Under k rs i) same (under_of rs i r rising there)) there same equal,
)

-- ---- The slots

pub key_there : (texts : List (List ℕ)) (ss : List Slot) (i : ℕ) (s : Slot) (key : List ℕ) → i < length ss → s ≡ get_or ss i s → slice_get texts s.id.0 ≡ Some key → HasKeyAt (records_of texts ss) i key
key_there texts ss i s key lt is read = record {
  r = record_of texts s;
  at = slice_get-map (record_of texts) ss i ∙ ap (option_map (record_of texts)) (slice_get_read ss (length ss) i s refl lt is);
  is = ap (λ (o : Option (List ℕ)). unwrap_or o []) read;
}

-- the text of a slot whose record has the key
pub slot_key : (texts : List (List ℕ)) (ss : List Slot) (i : ℕ) (s : Slot) (key : List ℕ) → i < length ss → s ≡ get_or ss i s → HasKeyAt (records_of texts ss) i key → unwrap_or (slice_get texts s.id.0) [] ≡ key
slot_key texts ss i s key lt is has =
    let at : slice_get (records_of texts ss) i ≡ Some (record_of texts s) = slice_get-map (record_of texts) ss i ∙ ap (option_map (record_of texts)) (slice_get_read ss (length ss) i s refl lt is) in
    let same : record_of texts s ≡ has.r = cc (sym at ∙ has.at) in
    ap (λ (r : Record). r.key) same ∙ has.is

pub within_at : (texts : List (List ℕ)) (ss : List Slot) (i : ℕ) (s : Slot) → AreWithin texts ss → i < length ss → s ≡ get_or ss i s → s.id.0 < length texts
within_at texts [] i s all lt is = absurd (omega (arith, lt))
within_at texts (x ∷ ss) zero s all lt is = subst (λ (y : Slot). y.id.0 < length texts) (sym is) all.0
within_at texts (x ∷ ss) (suc i) s all lt is = within_at texts ss i s all.1 (omega (arith, lt)) is

-- a key is held exactly where it has a position
pub held_at : (rs : List Record) (key : List ℕ) (r : Result ℕ ℕ) → IsPosition rs key r → is_ok r ≡ is_some (place_of key rs)
held_at rs key (Ok i) is = sym is.1
held_at rs key (Err i) is = ap is_some (sym is.1)

-- ---- One record more

all_with : (bound : List ℕ) (p : Record) (rs : List Record) → slice_cmp nat_cmp bound p.key ≡ Less → AllByRecursion (λ k. slice_cmp nat_cmp bound k ≡ Less) (keys rs) → AllByRecursion (λ k. slice_cmp nat_cmp bound k ≡ Less) (keys (with_record p rs))
all_with bound p [] less all = (less, tt)
all_with bound p (r ∷ rs) less all = go (slice_cmp nat_cmp p.key r.key) (all_with bound p rs less all.1)
  where
    go : (o : Ordering) → AllByRecursion (λ k. slice_cmp nat_cmp bound k ≡ Less) (keys (with_record p rs))
        → AllByRecursion (λ k. slice_cmp nat_cmp bound k ≡ Less) (keys (match_ordering o (p ∷ r ∷ rs) (record { key = r.key; at = p.at; len = p.len } ∷ rs) (r ∷ with_record p rs)))
    go Less rest = (less, all)
    go Equal rest = all
    go Greater rest = (all.0, rest)

all_above : (a b : List ℕ) (rs : List Record) → slice_cmp nat_cmp a b ≡ Less → AllByRecursion (λ k. slice_cmp nat_cmp b k ≡ Less) (keys rs) → AllByRecursion (λ k. slice_cmp nat_cmp a k ≡ Less) (keys rs)
all_above a b [] less all = tt
all_above a b (r ∷ rs) less all = (nat_list_cmp_total.trans a b r.key less all.0, all_above a b rs less all.1)

-- the keys rise with one put more
pub rising_with : (p : Record) (rs : List Record) → Rising rs → Rising (with_record p rs)
unfolding IsStrictlySortedBy
rising_with p [] rising = (tt, tt)
rising_with p (r ∷ rs) rising = go (slice_cmp nat_cmp p.key r.key) refl (rising_with p rs rising.1)
  where
    go : (o : Ordering) → slice_cmp nat_cmp p.key r.key ≡ o → Rising (with_record p rs) → Rising (match_ordering o (p ∷ r ∷ rs) (record { key = r.key; at = p.at; len = p.len } ∷ rs) (r ∷ with_record p rs))
    go Less is rest = ((is, all_above p.key r.key rs is rising.0), rising)
    go Equal is rest = rising
    go Greater is rest = (all_with r.key p rs (nat_list_cmp_total.antisymm r.key p.key ∙ ap ordering_reverse is) rising.0, rest)

-- texts that were there keep their numbers behind one more
text_stays : (texts : List (List ℕ)) (text : List ℕ) (i : ℕ) → i < length texts → slice_get (texts ++ text ∷ []) i ≡ slice_get texts i
text_stays [] text i lt = absurd (omega (arith, lt))
text_stays (t ∷ texts) text zero lt = refl
text_stays (t ∷ texts) text (suc i) lt = text_stays texts text i (omega (arith, lt))

text_last : (texts : List (List ℕ)) (text : List ℕ) → slice_get (texts ++ text ∷ []) (length texts) ≡ Some text
text_last [] text = refl
text_last (t ∷ texts) text = text_last texts text

pub records_stay : (texts : List (List ℕ)) (text : List ℕ) (ss : List Slot) → AllByRecursion (λ s. s.id.0 < length texts) ss → records_of (texts ++ text ∷ []) ss ≡ records_of texts ss
records_stay texts text [] all = refl
records_stay texts text (s ∷ ss) all =
    (λ i. record { key = unwrap_or (text_stays texts text s.id.0 all.0 i) []; at = s.at; len = s.len } ∷ records_stay texts text ss all.1 i)

pub map_insert : {A B : Type 0} (f : A → B) (xs : List A) (i : ℕ) (x : A) → map f (insert xs i x) ≡ insert (map f xs) i (f x)
map_insert f [] zero x = refl
map_insert f [] (suc i) x = refl
map_insert f (y ∷ xs) zero x = refl
map_insert f (y ∷ xs) (suc i) x = ap (λ t. f y ∷ t) (map_insert f xs i x)

-- the records once a new key was placed and its slot put in
pub records_in : (texts : List (List ℕ)) (key : List ℕ) (ss : List Slot) (i : ℕ) (s : Slot) → AllByRecursion (λ s. s.id.0 < length texts) ss → s.id.0 ≡ length texts
    → (insert (records_of texts ss) i (record { key = key; at = s.at; len = s.len }) ≡ with_record (record { key = key; at = s.at; len = s.len }) (records_of texts ss))
    → records_of (texts ++ key ∷ []) (insert ss i s) ≡ with_record (record { key = key; at = s.at; len = s.len }) (records_of texts ss)
records_in texts key ss i s all last is =
    map_insert (record_of (texts ++ key ∷ [])) ss i s
    ∙ (λ j. insert (records_stay texts key ss all j) i (record { key = unwrap_or ((ap (slice_get (texts ++ key ∷ [])) last ∙ text_last texts key) j) []; at = s.at; len = s.len })) ∙ is

-- the records once a held key's slot was written over
pub records_over : (texts : List (List ℕ)) (key : List ℕ) (ss : List Slot) (i : ℕ) (s : Slot) → unwrap_or (slice_get texts s.id.0) [] ≡ key
    → (with_record (record { key = key; at = s.at; len = s.len }) (records_of texts ss) ≡ slice_set (records_of texts ss) i (record { key = key; at = s.at; len = s.len }))
    → records_of texts (slice_set ss i s) ≡ with_record (record { key = key; at = s.at; len = s.len }) (records_of texts ss)
records_over texts key ss i s named is =
    map-set (record_of texts) ss i s ∙ ap (λ (k : List ℕ). slice_set (records_of texts ss) i (record { key = k; at = s.at; len = s.len })) named ∙ sym is

-- the records after `place` and `insert`
pub now_in : (old new : Texts) (key : List ℕ) (ss after : List Slot) (i : ℕ) (s : Slot) → AreWithin old.texts ss → IsPosition (records_of old.texts ss) key (Err i) → Placed old key new (Ok s.id) → after ≡ insert ss i s
    → records_of new.texts after ≡ with_record (record { key = key; at = s.at; len = s.len }) (records_of old.texts ss)
now_in old new key ss after i s within at placed slots =
    (λ j. records_of ((placed.3 j).texts) (slots j)) ∙ records_in old.texts key ss i s within placed.0 (sym (at.2 s.at s.len))

-- they stand for one put more
pub stands_now : (p : Record) (rs new puts : List Record) → new ≡ with_record p rs → Rising rs → StandsFor puts rs → StandsFor (puts ++ p ∷ []) new
stands_now p rs new puts is rising stands = stands_with p rs new puts is (subst Rising (sym is) (rising_with p rs rising)) stands

all_set : {A : Type 0} (P : A → Type 0) (xs : List A) (i : ℕ) (x : A) → AllByRecursion P xs → P x → AllByRecursion P (slice_set xs i x)
all_set P [] i x all h = tt
all_set P (y ∷ xs) zero x all h = (h, all.1)
all_set P (y ∷ xs) (suc i) x all h = (all.0, all_set P xs i x all.1 h)

all_insert : {A : Type 0} (P : A → Type 0) (xs : List A) (i : ℕ) (x : A) → AllByRecursion P xs → P x → AllByRecursion P (insert xs i x)
all_insert P [] zero x all h = (h, tt)
all_insert P [] (suc i) x all h = (h, tt)
all_insert P (y ∷ xs) zero x all h = (h, all)
all_insert P (y ∷ xs) (suc i) x all h = (all.0, all_insert P xs i x all.1 h)

within_more : (texts : List (List ℕ)) (text : List ℕ) (ss : List Slot) → AreWithin texts ss → AreWithin (texts ++ text ∷ []) ss
within_more texts text [] all = tt
within_more texts text (s ∷ ss) all = (omega (arith, all.0, length-append texts (text ∷ [])), within_more texts text ss all.1)

-- ---- The fields

-- without records all that was reserved is left
pub sound_at_first : (b : Inside) (bytes : ℕ) → b.texts ≡ record { texts = []; left = bytes; room = bytes; most = b.keys } → b.slots.items ≡ [] → b.keys < 2 ^ 32 → b.keys ≤ vec_capacity b.slots → IsSound b
unfolding IsStrictlySortedBy
sound_at_first b bytes region none small kept =
    let ts = b.texts.texts in
    let no_slots : length b.slots.items ≡ 0 = ap (length {A = Slot}) none in
    let no_texts : length ts ≡ 0 = ap (λ (h : Texts). length h.texts) region in
    let left : b.texts.left ≡ bytes = ap (λ (h : Texts). h.left) region in
    let room : b.texts.room ≡ bytes = ap (λ (h : Texts). h.room) region in
    let taken : key_bytes (records_of ts b.slots.items) ≡ 0 = ap (λ (xs : List Slot). key_bytes (records_of ts xs)) none in
    record {
      rising = subst (λ (xs : List Slot). Rising (records_of ts xs)) (sym none) tt;
      fit = subst (λ (xs : List Slot). AllFit (records_of ts xs)) (sym none) tt;
      within = subst (λ (xs : List Slot). AreWithin ts xs) (sym none) tt;
      number = omega (arith, no_slots, no_texts);
      few = omega (arith, no_slots);
      most = ap (λ (h : Texts). h.most) region;
      small = small;
      left = omega (arith, left, room, taken);
      kept = kept;
    }

-- no records stand for no puts
pub none_stand : (texts : List (List ℕ)) (ss : List Slot) → ss ≡ [] → StandsFor [] (records_of texts ss)
none_stand texts ss none = subst (λ (xs : List Slot). StandsFor [] (records_of texts xs)) (sym none) no_puts

-- one record more
sound_with : (b c : Inside) (p : Record) → IsSound b → Fits p → records_of c.texts.texts c.slots.items ≡ with_record p (records_of b.texts.texts b.slots.items)
    → AreWithin c.texts.texts c.slots.items → length c.slots.items ≡ length c.texts.texts → length c.slots.items ≤ c.keys → c.texts.most ≡ c.keys → c.keys ≡ b.keys → c.texts.room ≡ b.texts.room
    → c.texts.left + more_bytes (not (is_some (place_of p.key (records_of b.texts.texts b.slots.items)))) p ≡ b.texts.left → c.keys ≤ vec_capacity c.slots → IsSound c
sound_with b c p s fits is within number few most keys_same room left kept =
    let rs = records_of b.texts.texts b.slots.items in
    record {
      rising = subst Rising (sym is) (rising_with p rs s.rising);
      fit = subst AllFit (sym is) (fit_with p rs fits s.fit);
      within = within;
      number = number;
      few = few;
      most = most;
      small = subst (λ n. n < 2 ^ 32) (sym keys_same) s.small;
      left = ap (λ n. c.texts.left + n) (ap key_bytes is ∙ bytes_with p rs s.rising) ∙ omega (arith, left, s.left, room);
      kept = kept;
    }

-- a key that is held takes the new place
pub sound_over : (b c : Inside) (i : ℕ) (s : Slot) (key : List ℕ) → IsSound b → Fits (record { key = key; at = s.at; len = s.len }) → IsPosition (records_of b.texts.texts b.slots.items) key (Ok i)
    → s.id.0 < length b.texts.texts → unwrap_or (slice_get b.texts.texts s.id.0) [] ≡ key → c.texts ≡ b.texts → c.slots.items ≡ slice_set b.slots.items i s → c.keys ≡ b.keys → c.keys ≤ vec_capacity c.slots → IsSound c
sound_over b c i s key sound fits at within named texts slots keys_same kept =
    let ts = b.texts.texts in
    let p : Record = record { key = key; at = s.at; len = s.len } in
    let long : length c.slots.items ≡ length b.slots.items = ap (length {A = Slot}) slots ∙ length-set b.slots.items i s in
    let same : length c.texts.texts ≡ length ts = ap (λ (h : Texts). length h.texts) texts in
    sound_with b c p sound fits
    ((λ j. records_of ((texts j).texts) (slots j)) ∙ records_over ts key b.slots.items i s named (at.3 s.at s.len))
    (subst (λ (h : Texts). AreWithin h.texts c.slots.items) (sym texts) (subst (λ (xs : List Slot). AreWithin ts xs) (sym slots) (all_set (λ (x : Slot). x.id.0 < length ts) b.slots.items i s sound.within within)))
    (omega (arith, long, same, sound.number)) (omega (arith, long, sound.few, keys_same)) (omega (arith, ap (λ (h : Texts). h.most) texts, sound.most, keys_same)) keys_same (ap (λ (h : Texts). h.room) texts)
    (ap (λ (held : Bool). c.texts.left + more_bytes (not held) p) at.1 ∙ omega (arith, ap (λ (h : Texts). h.left) texts)) kept

-- a key that is new has a text and a slot of its own
pub sound_in : (b c : Inside) (i : ℕ) (s : Slot) (key : List ℕ) → IsSound b → Fits (record { key = key; at = s.at; len = s.len }) → IsPosition (records_of b.texts.texts b.slots.items) key (Err i)
    → Placed b.texts key c.texts (Ok s.id) → c.slots.items ≡ insert b.slots.items i s → c.keys ≡ b.keys → c.keys ≤ vec_capacity c.slots → IsSound c
sound_in b c i s key sound fits at placed slots keys_same kept =
    let ts = b.texts.texts in
    let p : Record = record { key = key; at = s.at; len = s.len } in
    let texts : c.texts ≡ holding b.texts key = placed.3 in
    let in_it : i ≤ length b.slots.items = omega (arith, at.0, length-map b.slots.items (record_of ts)) in
    let long : length c.slots.items ≡ length b.slots.items + 1 = ap (length {A = Slot}) slots ∙ length-insert b.slots.items i s in_it in
    let more : length c.texts.texts ≡ length ts + 1 = ap (λ (h : Texts). length h.texts) texts ∙ length-append ts (key ∷ []) in
    let last : s.id.0 < length (ts ++ key ∷ []) = omega (arith, placed.0, length-append ts (key ∷ [])) in
    sound_with b c p sound fits
    (now_in b.texts c.texts key b.slots.items c.slots.items i s sound.within at placed slots)
    (subst (λ (h : Texts). AreWithin h.texts c.slots.items) (sym texts) (subst (λ (xs : List Slot). AreWithin (ts ++ key ∷ []) xs) (sym slots) (all_insert (λ (x : Slot). x.id.0 < length (ts ++ key ∷ [])) b.slots.items i s (within_more ts key b.slots.items sound.within) last)))
    (omega (arith, long, more, sound.number)) (omega (arith, long, sound.number, placed.1, sound.most, keys_same)) (omega (arith, ap (λ (h : Texts). h.most) texts, sound.most, keys_same)) keys_same (ap (λ (h : Texts). h.room) texts)
    (ap (λ (f : Option (ℕ × ℕ)). c.texts.left + more_bytes (not (is_some f)) p) at.1 ∙ omega (arith, ap (λ (h : Texts). h.left) texts, placed.2)) kept
