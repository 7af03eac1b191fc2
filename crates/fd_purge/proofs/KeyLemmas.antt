-- Keys in a set, and keys of indexes from the last one on.
use Rattle.std.proofs.Common.{◌≡◌, inl, inr, ◌≤◌, ◌+◌, ◌||◌, ◌&&◌, ◌==◌, zero, suc, ℕ, Bool, true, false, List, [], ◌∷◌, length, drop, slice_get, Some, option_map, refl, sym, ◌∙◌, ap, subst, arith}
use Rattle.std.specs.Global.{Vec}
use Rattle.std.specs.List.{list_any}
use Rattle.std.specs.declared.cmp.Ordering.{Ordering}
use Rattle.std.specs.declared.cmp.Ordering.TheVariants.{Less, Equal, Greater}
use Rattle.std.specs.Ordering.{is_eq, match_ordering, nat_cmp}
use Rattle.std.specs.Cmp.{unsigned_ties}
use Rattle.std.specs.Cmp.Lexicographic.{lists_ties, slice_cmp}
use Rattle.std.specs.BTreeMap.{is_at}
use Rattle.std.specs.BTreeSet.{BTreeSet, insert_key}
use Rattle.std.proofs.lemmas.Bool.Decides.{Decides-eqb}
use Rattle.std.proofs.lemmas.List.{length-map}
use Rattle.std.proofs.lemmas.Option.{slice_get-map}
use Rattle.fd_entries.specs.Batches.{same_bytes}
use Rattle.fd_entries.proofs.BatchSums.{bytes_same, same_as_eq}
use Rattle.fd_entries.proofs.Inverse.{is_or_not}
use Rattle.fd_index.specs.Records.{Record, keys}
use Rattle.fd_purge.specs.Kept.{is_key, is_masked, occurs}
use Rattle.fd_purge.specs.Reads.{Knows}
use Rattle.fd_purge.proofs.KeptLemmas.{masked_key}

eq_comm : (x y : ℕ) → (x == y) ≡ (y == x)
eq_comm x y = elim (is_or_not (x == y)) [
  | inl same ↦ same ∙ sym ((Decides-eqb y x).1 (sym ((Decides-eqb x y).0 same)))
  | inr other ↦ elim (is_or_not (y == x)) [
    | inl same ↦ absurd (cc (sym other ∙ (Decides-eqb x y).1 (sym ((Decides-eqb y x).0 same))))
    | inr also ↦ other ∙ sym also
  ]
]

same_comm : (xs ys : List ℕ) → same_bytes xs ys ≡ same_bytes ys xs
same_comm [] [] = refl
same_comm [] (y ∷ ys) = refl
same_comm (x ∷ xs) [] = refl
same_comm (x ∷ xs) (y ∷ ys) = λ j. eq_comm x y j && same_comm xs ys j

-- a query is at a key where the two have the same bytes
pub at_same : (key k : List ℕ) → is_eq (slice_cmp nat_cmp key k) ≡ same_bytes k key
at_same key k = sym (lists_ties nat_cmp unsigned_ties key k) ∙ sym (same_as_eq key k) ∙ same_comm key k

abbrev pub at_key : List ℕ → Vec ℕ → Bool
at_key key v = is_at (λ (k : Vec ℕ). slice_cmp nat_cmp key k.items) v

abbrev pub keys_order : Vec ℕ → Vec ℕ → Ordering
keys_order x y = slice_cmp nat_cmp x.items y.items

twice : (a b : Bool) → (a || b) ≡ (a || (a || b))
twice true b = refl
twice false b = refl

swap : (a b c : Bool) → (a || (b || c)) ≡ (b || (a || c))
swap true true c = refl
swap true false c = refl
swap false b c = refl

or_false : (a : Bool) → (a || false) ≡ a
or_false true = refl
or_false false = refl

equal_key : (o : Ordering) → o ≡ Equal → is_eq o ≡ true
equal_key o e = ap is_eq e

pub inserted : (ks : List (Vec ℕ)) (v : Vec ℕ) (key : List ℕ) → list_any (at_key key) (insert_key keys_order ks v) ≡ (same_bytes v.items key || list_any (at_key key) ks)
inserted [] v key = ap (λ (b : Bool). b || false) (at_same key v.items)
inserted (x ∷ xs) v key = by (keys_order v x) refl (inserted xs v key)
  where
    by : (o : Ordering) → keys_order v x ≡ o → list_any (at_key key) (insert_key keys_order xs v) ≡ (same_bytes v.items key || list_any (at_key key) xs) → list_any (at_key key) (match_ordering o (v ∷ x ∷ xs) (x ∷ xs) (x ∷ insert_key keys_order xs v)) ≡ (same_bytes v.items key || list_any (at_key key) (x ∷ xs))
    by Less e more = ap (λ (b : Bool). b || list_any (at_key key) (x ∷ xs)) (at_same key v.items)
    by Equal e more =
        let same : x.items ≡ v.items = bytes_same x.items v.items (sym (at_same v.items x.items) ∙ ap is_eq e) in
        let here : at_key key x ≡ same_bytes v.items key = at_same key x.items ∙ ap (λ b. same_bytes b key) same in
        ap (λ (b : Bool). b || list_any (at_key key) xs) here ∙ twice (same_bytes v.items key) (list_any (at_key key) xs) ∙ sym (ap (λ (b : Bool). same_bytes v.items key || (b || list_any (at_key key) xs)) here)
    by Greater e more = ap (λ (b : Bool). at_key key x || b) more ∙ swap (at_key key x) (same_bytes v.items key) (list_any (at_key key) xs)

-- ---- the keys of an index, from the last one on

pub none_left : {A : Type 0} (xs : List A) (n : ℕ) → length xs ≤ n → drop n xs ≡ []
none_left [] zero h = refl
none_left [] (suc n) h = refl
none_left (x ∷ xs) zero h = absurd (omega (arith, h))
none_left (x ∷ xs) (suc n) h = none_left xs n (omega (arith, h))

pub rest_at : {A : Type 0} (xs : List A) (n m : ℕ) (x : A) → m ≡ n + 1 → slice_get xs n ≡ Some x → drop n xs ≡ x ∷ drop m xs
rest_at {A = A} xs n m x next at = let e : suc n ≡ m = omega (arith, next) in subst (λ k. drop n xs ≡ x ∷ drop k xs) e (go xs n at)
  where
    none : (n : ℕ) → slice_get [] n ≡ Some x → ⊥
    none zero h = cc h
    none (suc n) h = cc h

    go : (ys : List A) (n : ℕ) → slice_get ys n ≡ Some x → drop n ys ≡ x ∷ drop (suc n) ys
    go [] n h = absurd (none n h)
    go (y ∷ ys) zero h = let e : y ≡ x = cc h in ap (λ z. z ∷ ys) e
    go (y ∷ ys) (suc n) h = go ys n h

pub key_at : (rs : List Record) (n : ℕ) (r : Record) → slice_get rs n ≡ Some r → slice_get (keys rs) n ≡ Some r.key
key_at rs n r at = slice_get-map (λ (x : Record). x.key) rs n ∙ ap (option_map (λ (x : Record). x.key)) at

pub start_masked : (rs : List Record) (n : ℕ) (later : List (List (List ℕ))) → length rs ≤ n → is_masked (drop n (keys rs)) later ≡ true
start_masked rs n later le = ap (λ ks. is_masked ks later) (none_left (keys rs) n (omega (arith, length-map rs (λ (x : Record). x.key), le)))

pub more_masked : (rs : List Record) (n m : ℕ) (r : Record) (later : List (List (List ℕ))) → m ≡ n + 1 → slice_get rs n ≡ Some r → occurs later r.key ≡ true → is_masked (drop m (keys rs)) later ≡ true → is_masked (drop n (keys rs)) later ≡ true
more_masked rs n m r later next at here rest =
    ap (λ ks. is_masked ks later) (rest_at (keys rs) n m r.key next (key_at rs n r at)) ∙ ap (λ (b : Bool). b && is_masked (drop m (keys rs)) later) here ∙ rest

-- a key that doesn't occur
pub not_masked : (ks : List (List ℕ)) (n : ℕ) (k : List ℕ) (later : List (List (List ℕ))) → slice_get ks n ≡ Some k → occurs later k ≡ false → is_masked ks later ≡ false
not_masked [] zero k later at out = absurd (cc at)
not_masked [] (suc n) k later at out = absurd (cc at)
not_masked (x ∷ ks) zero k later at out = let e : x ≡ k = cc at in ap (λ (b : Bool). b && is_masked ks later) (ap (occurs later) e ∙ out)
not_masked (x ∷ ks) (suc n) k later at out = ap (λ (b : Bool). occurs later x && b) (not_masked ks n k later at out) ∙ and_false (occurs later x)
  where
    and_false : (b : Bool) → (b && false) ≡ false
    and_false true = refl
    and_false false = refl

-- ---- the keys that are known

pub start_known : (rs : List Record) (n : ℕ) (s : BTreeSet (Vec ℕ)) (later : List (List (List ℕ))) → length rs ≤ n → Knows s later → Knows s (drop n (keys rs) ∷ later)
start_known rs n s later le known key = known key ∙ sym (ap (λ ks. is_key ks key || occurs later key) (none_left (keys rs) n (omega (arith, length-map rs (λ (x : Record). x.key), le))))

assoc : (a b c : Bool) → (a || (b || c)) ≡ ((a || b) || c)
assoc true b c = refl
assoc false b c = refl

pub more_known : (rs : List Record) (n m : ℕ) (r : Record) (v : Vec ℕ) (old new : BTreeSet (Vec ℕ)) (later : List (List (List ℕ))) → m ≡ n + 1 → slice_get rs n ≡ Some r → v.items ≡ r.key
    → new.keys ≡ insert_key keys_order old.keys v → Knows old (drop m (keys rs) ∷ later) → Knows new (drop n (keys rs) ∷ later)
more_known rs n m r v old new later next at is grown known key =
    ap (list_any (at_key key)) grown ∙ inserted old.keys v key
    ∙ (λ j. same_bytes (is j) key || known key j)
    ∙ assoc (same_bytes r.key key) (is_key (drop m (keys rs)) key) (occurs later key)
    ∙ sym (ap (λ ks. is_key ks key || occurs later key) (rest_at (keys rs) n m r.key next (key_at rs n r at)))

-- the keys of a masked batch are known
pub masked_known : (s : BTreeSet (Vec ℕ)) (ks : List (List ℕ)) (later : List (List (List ℕ))) → is_masked ks later ≡ true → Knows s later → Knows s (ks ∷ later)
masked_known s ks later m known key = known key ∙ elim (is_or_not (is_key ks key)) [
  | inl here ↦ masked_key ks later key m here ∙ sym (ap (λ (b : Bool). b || occurs later key) here)
  | inr out ↦ sym (ap (λ (b : Bool). b || occurs later key) out)
]
