-- How many records stand for the pairs that were put.
use Rattle.std.proofs.Common.{◌≡◌, ◌⊎◌, inl, inr, ℕ, ◌+◌, ◌≤◌, Bool, true, false, ◌||◌, if◌then◌else◌, List, [], ◌∷◌, length, bytes_eq, Option, Some, None, is_some, refl, sym, ap, ◌∙◌, subst, arith}
use Rattle.std.proofs.lemmas.List.{length-map}
use Rattle.fd_entries.specs.declared.batch.Pair.{Pair}
use Rattle.fd_entries.specs.Batches.{distinct, has_key, or_older, same_bytes}
use Rattle.fd_index.specs.Records.{Record, StandsFor, keys, place_of}
use Rattle.fd_segment.specs.Filling.{places_from}
use Rattle.fd_segment.proofs.Differing.{Differ, IsIn, no_longer}
use Rattle.fd_segment.proofs.Keys.{eq_is, eq_refl, in_place, last_place, newest_last, place_in, rising_differ, same_as_eq, true_or_false}

-- the keys of a batch, each once
abbrev pub last_keys : List Pair → List (List ℕ)
last_keys [] = []
last_keys (p ∷ ps) = if has_key ps p.key then last_keys ps else p.key ∷ last_keys ps

last_keys_length : (b : List Pair) → length (last_keys b) ≡ distinct b
last_keys_length [] = refl
last_keys_length (p ∷ ps) = go (has_key ps p.key) (last_keys_length ps)
  where
    go : (h : Bool) → length (last_keys ps) ≡ distinct ps → length (if h then last_keys ps else p.key ∷ last_keys ps) ≡ (if h then 0 else 1) + distinct ps
    go true ih = omega (arith, ih)
    go false ih = omega (arith, ih)

has_or : (x y : Bool) → (x || y) ≡ true → (x ≡ true) ⊎ (y ≡ true)
has_or true y h = inl refl
has_or false y h = inr h

-- what stands among the last keys is a key of the batch
last_has : (b : List Pair) (key : List ℕ) → IsIn (last_keys b) key → has_key b key ≡ true
last_has [] key h = absurd h
last_has (p ∷ ps) key h = go (last_has ps key) (has_key ps p.key) h
  where
    or_true : (x y : Bool) → y ≡ true → (x || y) ≡ true
    or_true true y e = refl
    or_true false y e = e

    here : p.key ≡ key → same_bytes p.key key ≡ true
    here e = ap (same_bytes p.key) (sym e) ∙ same_as_eq p.key p.key ∙ eq_refl p.key

    or_left : (x y : Bool) → x ≡ true → (x || y) ≡ true
    or_left x y e = ap (λ (b : Bool). b || y) e

    go : (IsIn (last_keys ps) key → has_key ps key ≡ true) → (h : Bool) → IsIn (if h then last_keys ps else p.key ∷ last_keys ps) key → (same_bytes p.key key || has_key ps key) ≡ true
    go rest true q = or_true (same_bytes p.key key) (has_key ps key) (rest q)
    go rest false (inl e) = or_left (same_bytes p.key key) (has_key ps key) (here e)
    go rest false (inr q) = or_true (same_bytes p.key key) (has_key ps key) (rest q)

has_last : (b : List Pair) (key : List ℕ) → has_key b key ≡ true → IsIn (last_keys b) key
has_last [] key h = absurd (cc h)
has_last (p ∷ ps) key h = go (has_last ps key) (true_or_false (has_key ps p.key)) (has_or (same_bytes p.key key) (has_key ps key) h)
  where
    at : (h : Bool) → has_key ps p.key ≡ h → IsIn (if h then last_keys ps else p.key ∷ last_keys ps) key → IsIn (last_keys (p ∷ ps)) key
    at h e q = subst (λ (x : Bool). IsIn (if x then last_keys ps else p.key ∷ last_keys ps) key) (sym e) q

    is_key : same_bytes p.key key ≡ true → p.key ≡ key
    is_key e = sym (eq_is key p.key (sym (same_as_eq p.key key) ∙ e))

    go : (has_key ps key ≡ true → IsIn (last_keys ps) key) → (has_key ps p.key ≡ true) ⊎ (has_key ps p.key ≡ false) → (same_bytes p.key key ≡ true) ⊎ (has_key ps key ≡ true) → IsIn (last_keys (p ∷ ps)) key
    go rest (inl e) (inl s) = at true e (rest (ap (has_key ps) (sym (is_key s)) ∙ e))
    go rest (inl e) (inr q) = at true e (rest q)
    go rest (inr e) (inl s) = at false e (inl (is_key s))
    go rest (inr e) (inr q) = at false e (inr (rest q))

last_differ : (b : List Pair) → Differ (last_keys b)
last_differ [] = tt
last_differ (p ∷ ps) = go (last_differ ps) (true_or_false (has_key ps p.key))
  where
    at : (h : Bool) → has_key ps p.key ≡ h → Differ (if h then last_keys ps else p.key ∷ last_keys ps) → Differ (last_keys (p ∷ ps))
    at h e q = subst (λ (x : Bool). Differ (if x then last_keys ps else p.key ∷ last_keys ps)) (sym e) q

    go : Differ (last_keys ps) → (has_key ps p.key ≡ true) ⊎ (has_key ps p.key ≡ false) → Differ (last_keys (p ∷ ps))
    go rest (inl e) = at true e rest
    go rest (inr e) = at false e ((λ q. let t = last_has ps p.key q in absurd (cc (t, e))), rest)

-- the puts of a batch have its keys
pub places_has : (at : ℕ) (b : List Pair) (key : List ℕ) → is_some (last_place key (places_from at b)) ≡ has_key b key
places_has at [] key = refl
places_has at (p ∷ ps) key = go (last_place key (places_from (at + (length p.bytes + 32)) ps)) (bytes_eq key p.key) (has_key ps key) (places_has (at + (length p.bytes + 32)) ps key) ∙ ap (λ (b : Bool). b || has_key ps key) (sym (same_as_eq p.key key))
  where
    go : (o : Option (ℕ × ℕ)) (e h : Bool) → is_some o ≡ h → is_some (or_older o (if e then Some (at, length p.bytes) else None)) ≡ (e || h)
    go (Some x) true h is = refl
    go (Some x) false h is = is
    go None true h is = refl
    go None false h is = is

-- as many records as distinct keys
pub records_count : (b : List Pair) (rs : List Record) → StandsFor (places_from 0 b) rs → length rs ≡ distinct b
records_count b rs stands =
    let same : (key : List ℕ) → is_some (place_of key rs) ≡ has_key b key = λ key. ap is_some (stands.newest key ∙ newest_last key (places_from 0 b)) ∙ places_has 0 b key in
    let le : length (keys rs) ≤ length (last_keys b) = no_longer (keys rs) (last_keys b) (rising_differ rs stands.rising) (λ key q. has_last b key (sym (same key) ∙ in_place key rs q)) in
    let ge : length (last_keys b) ≤ length (keys rs) = no_longer (last_keys b) (keys rs) (last_differ b) (λ key q. place_in key rs (same key ∙ last_has b key q)) in
    let many : length (keys rs) ≡ length rs = length-map rs (λ r. r.key) in
    let few : length (last_keys b) ≡ distinct b = last_keys_length b in
    omega arith

none_distinct : (b : List Pair) → distinct b ≡ 0 → b ≡ []
none_distinct b few = go b few (last_keys_length b)
  where
    go : (b : List Pair) → distinct b ≡ 0 → length (last_keys b) ≡ distinct b → b ≡ []
    go [] few len = refl
    go (p ∷ ps) few len = absurd (some (last_keys (p ∷ ps)) (has_last (p ∷ ps) p.key here) (len ∙ few))
      where
        here : (same_bytes p.key p.key || has_key ps p.key) ≡ true
        here = ap (λ (b : Bool). b || has_key ps p.key) (same_as_eq p.key p.key ∙ eq_refl p.key)

        some : (ks : List (List ℕ)) → IsIn ks p.key → length ks ≡ 0 → ⊥
        some [] q e = q
        some (k ∷ ks) q e = absurd (omega (arith, e))

-- without records nothing was put
pub no_records : (b : List Pair) (rs : List Record) → StandsFor (places_from 0 b) rs → length rs ≡ 0 → b ≡ []
no_records b rs stands none = none_distinct b (sym (records_count b rs stands) ∙ none)

pub no_pairs : (b : List Pair) (rs : List Record) → StandsFor (places_from 0 b) rs → b ≡ [] → length rs ≡ 0
no_pairs b rs stands none = records_count b rs stands ∙ ap distinct none
