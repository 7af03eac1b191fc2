-- The newest bytes of a key in the batches that are kept are the newest in all.
use Rattle.std.proofs.Common.{◌≡◌, ◌⊎◌, inl, inr, ◌||◌, ℕ, Bool, true, false, if◌then◌else◌, List, [], ◌∷◌, map, Option, Some, None, is_some, refl, sym, ◌∙◌, ap, subst}
use Rattle.fd_entries.specs.declared.batch.Pair.{Pair}
use Rattle.fd_entries.specs.Batches.{newest, of_batch, or_older, same_bytes}
use Rattle.fd_entries.proofs.BatchSums.{both, bytes_same}
use Rattle.fd_entries.proofs.Inverse.{is_or_not}
use Rattle.fd_purge.specs.Kept.{KeepsNewest, is_key, is_masked, kept, keys_of, occurs}

neither : (a b : Bool) → (a || b) ≡ false → (a ≡ false) × (b ≡ false)
neither true b h = absurd (cc h)
neither false b h = (refl, h)

either : (a b : Bool) → (a || b) ≡ true → (a ≡ true) ⊎ (b ≡ true)
either true b h = inl refl
either false b h = inr h

older_none : {A : Type 0} (x : Option A) → or_older x None ≡ x
older_none (Some x) = refl
older_none None = refl

older_some : {A : Type 0} (x y : Option A) → is_some x ≡ true → or_older x y ≡ x
older_some (Some x) y h = refl
older_some None y h = absurd (cc h)

some_older : {A : Type 0} (x y : Option A) → is_some y ≡ true → is_some (or_older x y) ≡ true
some_older (Some x) y h = refl
some_older None y h = h

older_some_is : {A : Type 0} (x y : Option A) → is_some x ≡ true → is_some (or_older x y) ≡ true
older_some_is (Some x) y h = refl
older_some_is None y h = absurd (cc h)

-- a batch without the key has no bytes of it
no_bytes : (b : List Pair) (key : List ℕ) → is_key (keys_of b) key ≡ false → of_batch b key ≡ None
no_bytes [] key h = refl
no_bytes (p ∷ ps) key h =
    let n = neither (same_bytes p.key key) (is_key (keys_of ps) key) h in
    ap (λ o. or_older o (if same_bytes p.key key then Some p.bytes else None)) (no_bytes ps key n.1) ∙ ap (λ (c : Bool). if c then Some p.bytes else None) n.0

-- a batch with the key has some
some_bytes : (b : List Pair) (key : List ℕ) → is_key (keys_of b) key ≡ true → is_some (of_batch b key) ≡ true
some_bytes [] key h = absurd (cc h)
some_bytes (p ∷ ps) key h = elim (either (same_bytes p.key key) (is_key (keys_of ps) key) h) [
  | inl here ↦ some_older (of_batch ps key) (if same_bytes p.key key then Some p.bytes else None) (ap (λ (c : Bool). is_some (if c then Some p.bytes else None)) here)
  | inr later ↦ older_some_is (of_batch ps key) (if same_bytes p.key key then Some p.bytes else None) (some_bytes ps key later)
]

some_newest : (t : List (List Pair)) (key : List ℕ) → occurs (map keys_of t) key ≡ true → is_some (newest t key) ≡ true
some_newest [] key h = absurd (cc h)
some_newest (b ∷ bs) key h = elim (either (is_key (keys_of b) key) (occurs (map keys_of bs) key) h) [
  | inl here ↦ some_older (newest bs key) (of_batch b key) (some_bytes b key here)
  | inr later ↦ older_some_is (newest bs key) (of_batch b key) (some_newest bs key later)
]

-- a key of a masked batch occurs later
pub masked_key : (ks : List (List ℕ)) (later : List (List (List ℕ))) (key : List ℕ) → is_masked ks later ≡ true → is_key ks key ≡ true → occurs later key ≡ true
masked_key [] later key m h = absurd (cc h)
masked_key (k ∷ ks) later key m h =
    let parts = both (occurs later k) (is_masked ks later) m in
    elim (either (same_bytes k key) (is_key ks key) h) [
      | inl here ↦ subst (λ x. occurs later x ≡ true) (bytes_same k key here) parts.0
      | inr more ↦ masked_key ks later key parts.1 more
    ]

-- a masked batch has the newest bytes of no key
masked_none : (b : List Pair) (bs : List (List Pair)) (key : List ℕ) → is_masked (keys_of b) (map keys_of bs) ≡ true → newest bs key ≡ or_older (newest bs key) (of_batch b key)
masked_none b bs key m = elim (is_or_not (is_key (keys_of b) key)) [
  | inl here ↦ sym (older_some (newest bs key) (of_batch b key) (some_newest bs key (masked_key (keys_of b) (map keys_of bs) key m here)))
  | inr out ↦ sym (ap (or_older (newest bs key)) (no_bytes b key out) ∙ older_none (newest bs key))
]

pub keeps_newest : KeepsNewest
keeps_newest [] key = refl
keeps_newest (b ∷ bs) key = elim (is_or_not (is_masked (keys_of b) (map keys_of bs))) [
  | inl m ↦ ap (λ (c : Bool). newest (if c then kept bs else b ∷ kept bs) key) m ∙ keeps_newest bs key ∙ masked_none b bs key m
  | inr m ↦ ap (λ (c : Bool). newest (if c then kept bs else b ∷ kept bs) key) m ∙ ap (λ o. or_older o (of_batch b key)) (keeps_newest bs key)
]
