-- Looking a key up by halving, among records whose keys rise.
use Rattle.std.proofs.Common.{◌≡◌, ℕ, ◌+◌, ◌-◌, ◌/◌, ◌<◌, ◌≤◌, true, cond, List, [], ◌∷◌, length, map, Some, None, option_map, slice_get, get_or, Ordering, Less, Greater, Equal, refl, sym, ap, ◌∙◌, subst, eq-or-lt_of_le, ⊎_elim, arith}
use Rattle.std.specs.Ordering.{is_gt, is_lt, nat_cmp, ordering_reverse}
use Rattle.std.specs.Cmp.Lexicographic.{slice_cmp}
use Rattle.std.specs.List.Sorted.{IsStrictlySortedBy}
use Rattle.std.specs.Map.{lookup, keys_of}
use Rattle.std.specs.BTreeMap.{is_at}
use Rattle.std.proofs.lemmas.Cmp.{nat_list_cmp_total, eq_by_cmp_equiv}
use Rattle.std.proofs.lemmas.List.{length-map}
use Rattle.std.proofs.lemmas.Map.Entries.{lookup_at_gap, lookup_from_place, length-keys_of}
use Rattle.std.proofs.lemmas.Map.Keys.{IsDistinct-from_sorted, Less-from_sorted}
use Rattle.std.proofs.lemmas.Map.Lookups.{exact_bytes}
use Rattle.std.proofs.lemmas.Map.Text.{is_eq-slice_cmp}
use Rattle.std.proofs.lemmas.Option.{slice_get-map, slice_get_within, slice_get_read, get_or_from_slice_get}
use Rattle.fd_index.specs.declared.stored.Stored.{Stored}
use Rattle.fd_index.specs.Records.{Record, Rising, keys, place_of}
use Rattle.fd_index.specs.StoredRecords.{record_of, records_of}

abbrev pub Pair : Type 0
Pair = List ℕ × (ℕ × ℕ)

abbrev pub pair_of : Record → Pair
pair_of r = (r.key, (r.at, r.len))

abbrev pub pairs_of : List Record → List Pair
pairs_of rs = map pair_of rs

pub place_is : (key : List ℕ) (rs : List Record) → place_of key rs ≡ lookup (is_at (slice_cmp nat_cmp key)) (pairs_of rs)
place_is key [] = refl
place_is key (r ∷ rs) = λ i. cond (sym (is_eq-slice_cmp key r.key) i) (Some (r.at, r.len)) (place_is key rs i)

keys_are : (rs : List Record) → keys_of (pairs_of rs) ≡ keys rs
keys_are [] = refl
keys_are (r ∷ rs) = ap (λ ks. r.key ∷ ks) (keys_are rs)

pub pairs_rise : (rs : List Record) → Rising rs → IsStrictlySortedBy (slice_cmp nat_cmp) (keys_of (pairs_of rs))
pairs_rise rs h = subst (IsStrictlySortedBy (slice_cmp nat_cmp)) (sym (keys_are rs)) h

key_at : (es : List Pair) (i : ℕ) (e : Pair) (d : List ℕ) → slice_get es i ≡ Some e → get_or (keys_of es) i d ≡ e.0
key_at es i e d h = get_or_from_slice_get (keys_of es) i e.0 d (slice_get-map (λ (e : Pair). e.0) es i ∙ ap (option_map (λ (e : Pair). e.0)) h)

rises : (es : List Pair) (i j : ℕ) (e f : Pair) → IsStrictlySortedBy (slice_cmp nat_cmp) (keys_of es) → i < j → slice_get es i ≡ Some e → slice_get es j ≡ Some f → slice_cmp nat_cmp e.0 f.0 ≡ Less
rises es i j e f sorted lt at_i at_j =
    let within : j < length (keys_of es) = subst (λ n. j < n) (sym (length-keys_of es)) (slice_get_within es j f at_j) in
    (λ k. slice_cmp nat_cmp (sym (key_at es i e [] at_i) k) (sym (key_at es j f [] at_j) k)) ∙ Less-from_sorted (slice_cmp nat_cmp) (keys_of es) i j [] sorted lt within

same_at : (es : List Pair) (i : ℕ) (e f : Pair) → slice_get es i ≡ Some e → slice_get es i ≡ Some f → e ≡ f
same_at es i e f h g = sym (get_or_from_slice_get es i e e h) ∙ get_or_from_slice_get es i f e g

less_on : (a b c : List ℕ) → slice_cmp nat_cmp a b ≡ Less → slice_cmp nat_cmp b c ≡ Less → slice_cmp nat_cmp a c ≡ Less
less_on a b c = nat_list_cmp_total.trans a b c

flipped : (a b : List ℕ) → slice_cmp nat_cmp a b ≡ Greater → slice_cmp nat_cmp b a ≡ Less
flipped a b h = nat_list_cmp_total.antisymm b a ∙ ap ordering_reverse h

flipped_back : (a b : List ℕ) → slice_cmp nat_cmp a b ≡ Less → slice_cmp nat_cmp b a ≡ Greater
flipped_back a b h = nat_list_cmp_total.antisymm b a ∙ ap ordering_reverse h

-- the pairs before low have a lesser key, and those from high on a greater one
pub record Between (key : List ℕ) (es : List Pair) (low high : ℕ) : Type 0 where
  pub order : low ≤ high
  pub within : high ≤ length es
  pub below : (j : ℕ) (e : Pair) → j < low → slice_get es j ≡ Some e → slice_cmp nat_cmp key e.0 ≡ Greater
  pub above : (j : ℕ) (e : Pair) → high ≤ j → slice_get es j ≡ Some e → slice_cmp nat_cmp key e.0 ≡ Less

no_pair : (es : List Pair) (j : ℕ) (e : Pair) → length es ≤ j → slice_get es j ≡ Some e → ⊥
no_pair es j e le h = omega (arith, le, slice_get_within es j e h)

pub at_first : (key : List ℕ) (es : List Pair) (n : ℕ) → n ≡ length es → Between key es 0 n
at_first key es n is = record {
  order = omega arith;
  within = omega (arith, is);
  below = λ j e lt h. absurd (omega (arith, lt));
  above = λ j e le h. absurd (no_pair es j e (omega (arith, is, le)) h);
}

pub lower : (key : List ℕ) (rs : List Record) (low high m : ℕ) (r : Record) → Rising rs → Between key (pairs_of rs) low high → low ≤ m → m < high → slice_get (pairs_of rs) m ≡ Some (pair_of r) → slice_cmp nat_cmp key r.key ≡ Less → Between key (pairs_of rs) low m
lower key rs low high m r rising b le lt is less =
    let es = pairs_of rs in
    record {
      order = le;
      within = omega (arith, lt, b.within);
      below = b.below;
      above = λ j e from h. ⊎_elim
          (λ (here : m ≡ j). ap (λ (f : Pair). slice_cmp nat_cmp key f.0) (same_at es j e (pair_of r) h (subst (λ k. slice_get es k ≡ Some (pair_of r)) here is)) ∙ less)
          (λ (past : m < j). less_on key r.key e.0 less (rises es m j (pair_of r) e (pairs_rise rs rising) past is h))
          (eq-or-lt_of_le from);
    }

pub higher : (key : List ℕ) (rs : List Record) (low high m : ℕ) (r : Record) → Rising rs → Between key (pairs_of rs) low high → low ≤ m → m < high → slice_get (pairs_of rs) m ≡ Some (pair_of r) → slice_cmp nat_cmp key r.key ≡ Greater → Between key (pairs_of rs) (m + 1) high
higher key rs low high m r rising b le lt is greater =
    let es = pairs_of rs in
    record {
      order = omega (arith, lt);
      within = b.within;
      below = λ j e before h. ⊎_elim
          (λ (here : j ≡ m). ap (λ (f : Pair). slice_cmp nat_cmp key f.0) (same_at es j e (pair_of r) h (subst (λ k. slice_get es k ≡ Some (pair_of r)) (sym here) is)) ∙ greater)
          (λ (past : j < m). flipped_back e.0 key (less_on e.0 r.key key (rises es j m e (pair_of r) (pairs_rise rs rising) past h is) (flipped key r.key greater)))
          (eq-or-lt_of_le (let up_to : j ≤ m = omega (arith, before) in up_to));
      above = b.above;
    }

pub found : (key : List ℕ) (rs : List Record) (m : ℕ) (r : Record) → Rising rs → slice_get (pairs_of rs) m ≡ Some (pair_of r) → slice_cmp nat_cmp key r.key ≡ Equal → Some (r.at, r.len) ≡ place_of key rs
found key rs m r rising is equal =
    let es = pairs_of rs in
    let same : key ≡ r.key = exact_bytes key r.key equal in
    sym (place_is key rs ∙ ap (λ k. lookup (is_at (slice_cmp nat_cmp k)) es) same
    ∙ lookup_from_place (eq_by_cmp_equiv nat_list_cmp_total) es m r.key (r.at, r.len) (IsDistinct-from_sorted (slice_cmp nat_cmp) (keys_of es) (pairs_rise rs rising)) is)

pub gone : (key : List ℕ) (rs : List Record) (low high : ℕ) → Rising rs → Between key (pairs_of rs) low high → high ≤ low → None ≡ place_of key rs
gone key rs low high rising b le =
    sym (place_is key rs ∙ lookup_at_gap nat_list_cmp_total key (pairs_of rs) low (pairs_rise rs rising) b.below (λ e h. b.above low e le h))

-- ---- A key that stands outside of all of them

less_by : (o : Ordering) → is_lt o ≡ true → o ≡ Less
less_by Less h = refl
less_by Equal h = absurd (cc h)
less_by Greater h = absurd (cc h)

greater_by : (o : Ordering) → is_gt o ≡ true → o ≡ Greater
greater_by Less h = absurd (cc h)
greater_by Equal h = absurd (cc h)
greater_by Greater h = refl

-- a key before that of the first record has no place
pub gone_before : (key : List ℕ) (rs : List Record) (r : Record) → Rising rs → slice_get (pairs_of rs) 0 ≡ Some (pair_of r) → is_lt (slice_cmp nat_cmp key r.key) ≡ true → place_of key rs ≡ None
gone_before key rs r rising is before =
    let n : ℕ = length (pairs_of rs) in
    let within : 0 < n = slice_get_within (pairs_of rs) 0 (pair_of r) is in
    sym (gone key rs 0 0 rising (lower key rs 0 n 0 r rising (at_first key (pairs_of rs) n refl) (omega arith) within is (less_by (slice_cmp nat_cmp key r.key) before)) (omega arith))

-- and so has one behind that of the last
pub gone_behind : (key : List ℕ) (rs : List Record) (m : ℕ) (r : Record) → Rising rs → m + 1 ≡ length (pairs_of rs) → slice_get (pairs_of rs) m ≡ Some (pair_of r) → is_gt (slice_cmp nat_cmp key r.key) ≡ true → place_of key rs ≡ None
gone_behind key rs m r rising last is behind =
    let n : ℕ = length (pairs_of rs) in
    sym (gone key rs (m + 1) n rising (higher key rs 0 n m r rising (at_first key (pairs_of rs) n refl) (omega arith) (omega (arith, last)) is (greater_by (slice_cmp nat_cmp key r.key) behind)) (omega (arith, last)))

-- ---- The records that are kept in memory

pub length_kept : (ss : List Stored) → length (pairs_of (records_of ss)) ≡ length ss
length_kept ss = length-map (records_of ss) pair_of ∙ length-map ss record_of

pub kept_at : (ss : List Stored) (m : ℕ) (s : Stored) → m < length ss → s ≡ get_or ss m s → slice_get (pairs_of (records_of ss)) m ≡ Some (pair_of (record_of s))
kept_at ss m s lt is =
    slice_get-map pair_of (records_of ss) m ∙ ap (option_map pair_of) (slice_get-map record_of ss m ∙ ap (option_map record_of) (slice_get_read ss (length ss) m s refl lt is))

-- the middle of what is left, and the record there
pub record Middle (ss : List Stored) (key : List ℕ) (low high m : ℕ) (s : Stored) : Type 0 where
  pub from : low ≤ m
  pub under : m < high
  pub at : slice_get (pairs_of (records_of ss)) m ≡ Some (pair_of (record_of s))

pub middle : (ss : List Stored) (key : List ℕ) (low high : ℕ) (s : Stored) → Between key (pairs_of (records_of ss)) low high → low < high → s ≡ get_or ss (low + (high - low) / 2) s → Middle ss key low high (low + (high - low) / 2) s
middle ss key low high s b lt is = record {
  from = omega arith;
  under = omega (arith, lt);
  at = kept_at ss (low + (high - low) / 2) s (let within : low + (high - low) / 2 < length ss = omega (arith, lt, b.within, length_kept ss) in within) is;
}
