-- Sums over the pairs of a batch, pair by pair.
use Rattle.std.proofs.Common.{◌≡◌, ◌||◌, ◌&&◌, ◌==◌, nat_eq, if◌then◌else◌, ℕ, zero, suc, ◌+◌, ◌≤◌, Bool, true, false, List, [], ◌∷◌, ◌++◌, length, take, drop, refl, sym, ◌∙◌, ap, subst, arith, Some, slice_get, length-append, append_assoc}
use Rattle.std.proofs.lemmas.List.{append-nil}
use Rattle.std.specs.Cmp.Lexicographic.{pointwise}
use Rattle.std.specs.Int.{w16, w64, to_be_bytes}
use Rattle.fd_entries.specs.declared.batch.Pair.{Pair}
use Rattle.std.proofs.lemmas.Bool.Decides.{nat_tests}
use Rattle.fd_entries.specs.Batches.{KeysFit, distinct, has_key, rows_from, same_bytes, total}

pub both : (a b : Bool) → (a && b) ≡ true → (a ≡ true) × (b ≡ true)
both true b is = (refl, is)
both false b is = absurd (cc is)

pub bytes_same : (xs ys : List ℕ) → same_bytes xs ys ≡ true → xs ≡ ys
bytes_same [] [] is = refl
bytes_same [] (y ∷ ys) is = absurd (cc is)
bytes_same (x ∷ xs) [] is = absurd (cc is)
bytes_same (x ∷ xs) (y ∷ ys) is =
    let t = both (x == y) (same_bytes xs ys) is in
    let same : x ≡ y = grind (arith, nat_tests, t.0) in
    let rest = bytes_same xs ys t.1 in
    λ j. same j ∷ rest j

next_one : {A : Type 0} (xs : List A) (i : ℕ) (x : A) → slice_get xs i ≡ Some x → take (suc i) xs ≡ take i xs ++ x ∷ []
next_one [] i x at = absurd (cc at)
next_one (y ∷ xs) zero x at = let e : y ≡ x = cc at in ap (λ z. z ∷ []) e
next_one (y ∷ xs) (suc i) x at = ap (λ zs. y ∷ zs) (next_one xs i x at)

-- the front of a list with what stands at the place is the front up to the next
pub take_next : {A : Type 0} (xs : List A) (i : ℕ) (x : A) → slice_get xs i ≡ Some x → take (i + 1) xs ≡ take i xs ++ x ∷ []
take_next xs i x at = let up : i + 1 ≡ suc i = omega arith in ap (λ (k : ℕ). take k xs) up ∙ next_one xs i x at

-- the rest of a list begins with what stands at the place
pub drop_here : {A : Type 0} (xs : List A) (i : ℕ) (x : A) → slice_get xs i ≡ Some x → drop i xs ≡ x ∷ drop (i + 1) xs
drop_here {A} xs i x at = go xs i at ∙ ap (λ (n : ℕ). x ∷ drop n xs) one
  where
    one : suc i ≡ i + 1
    one = omega arith

    go : (xs : List A) (i : ℕ) → slice_get xs i ≡ Some x → drop i xs ≡ x ∷ drop (suc i) xs
    go [] i at = absurd (cc at)
    go (y ∷ ys) zero at = let same : y ≡ x = cc at in ap (λ (z : A). z ∷ ys) same
    go (y ∷ ys) (suc i) at = go ys i at

-- what is left to count
pub total_step : (b : List Pair) (i : ℕ) (p : Pair) → slice_get b i ≡ Some p → total (drop i b) ≡ length p.bytes + total (drop (i + 1) b)
total_step b i p at = ap total (drop_here b i p at)

-- the length of the rows does not depend on the places in them
row_longer : (at : ℕ) (p : Pair) (ps : List Pair) → length (rows_from at (p ∷ ps)) ≡ 18 + length p.key + length (rows_from (at + length p.bytes) ps)
row_longer at p ps =
    let rest = rows_from (at + length p.bytes) ps in
    let e = length-append (to_be_bytes w16 (length p.key) ++ p.key ++ to_be_bytes w64 at ++ to_be_bytes w64 (length p.bytes)) rest in
    let f = length-append (to_be_bytes w16 (length p.key) ++ p.key ++ to_be_bytes w64 at) (to_be_bytes w64 (length p.bytes)) in
    let g = length-append (to_be_bytes w16 (length p.key) ++ p.key) (to_be_bytes w64 at) in
    omega (arith, e, f, g)

pub rows_anywhere : (at : ℕ) (b : List Pair) → length (rows_from at b) ≡ length (rows_from 0 b)
rows_anywhere at [] = refl
rows_anywhere at (p ∷ ps) = row_longer at p ps ∙ ap (λ (n : ℕ). 18 + length p.key + n) (rows_anywhere (at + length p.bytes) ps ∙ sym (rows_anywhere (0 + length p.bytes) ps)) ∙ sym (row_longer 0 p ps)

pub rows_step : (b : List Pair) (i : ℕ) (p : Pair) → slice_get b i ≡ Some p → length (rows_from 0 (drop i b)) ≡ 18 + length p.key + length (rows_from 0 (drop (i + 1) b))
rows_step b i p at =
    let rest = drop (i + 1) b in
    ap (λ (l : List Pair). length (rows_from 0 l)) (drop_here b i p at) ∙ row_longer 0 p rest ∙ ap (λ (n : ℕ). 18 + length p.key + n) (rows_anywhere (0 + length p.bytes) rest)

pub has_step : (b : List Pair) (i : ℕ) (p : Pair) (key : List ℕ) → slice_get b i ≡ Some p → has_key (drop i b) key ≡ (same_bytes p.key key || has_key (drop (i + 1) b) key)
has_step b i p key at = ap (λ (l : List Pair). has_key l key) (drop_here b i p at)

pub distinct_step : (b : List Pair) (i : ℕ) (p : Pair) → slice_get b i ≡ Some p → distinct (drop i b) ≡ (if has_key (drop (i + 1) b) p.key then 0 else 1) + distinct (drop (i + 1) b)
distinct_step b i p at = ap distinct (drop_here b i p at)

pub keys_step : (b : List Pair) (i : ℕ) (p : Pair) → slice_get b i ≡ Some p → KeysFit (drop i b) → (length p.key ≤ 256) × KeysFit (drop (i + 1) b)
keys_step b i p at fit = subst KeysFit (drop_here b i p at) fit

rows_one : (at : ℕ) (p : Pair) (ps : List Pair) → rows_from at (p ∷ ps) ≡ rows_from at (p ∷ []) ++ rows_from (at + length p.bytes) ps
rows_one at p ps = ap (λ (l : List ℕ). l ++ rows_from (at + length p.bytes) ps) (sym (append-nil (to_be_bytes w16 (length p.key) ++ p.key ++ to_be_bytes w64 at ++ to_be_bytes w64 (length p.bytes))))

-- one row more is written
pub rows_written : (done more : List ℕ) (b : List Pair) (i at : ℕ) (p : Pair) → slice_get b i ≡ Some p → more ≡ done ++ rows_from at (p ∷ []) → done ++ rows_from at (drop i b) ≡ rows_from 0 b
    → more ++ rows_from (at + length p.bytes) (drop (i + 1) b) ≡ rows_from 0 b
rows_written done more b i at p here pushed so_far =
    ap (λ (l : List ℕ). l ++ rows_from (at + length p.bytes) (drop (i + 1) b)) pushed
    ∙ append_assoc done (rows_from at (p ∷ [])) (rows_from (at + length p.bytes) (drop (i + 1) b))
    ∙ ap (λ (l : List ℕ). done ++ l) (sym (rows_one at p (drop (i + 1) b)) ∙ sym (ap (rows_from at) (drop_here b i p here)))
    ∙ so_far

-- the test that Rust's `==` makes of two slices
pub same_as_eq : (xs ys : List ℕ) → same_bytes xs ys ≡ pointwise nat_eq xs ys
same_as_eq [] [] = refl
same_as_eq [] (y ∷ ys) = refl
same_as_eq (x ∷ xs) [] = refl
same_as_eq (x ∷ xs) (y ∷ ys) = ap (λ (b : Bool). (x == y) && b) (same_as_eq xs ys)

-- one pair more
pub total_push : (ps : List Pair) (p : Pair) → total (ps ++ p ∷ []) ≡ total ps + length p.bytes
total_push [] p = omega arith
total_push (x ∷ ps) p = let ih = total_push ps p in omega (arith, ih)

rows_push_at : (at : ℕ) (ps : List Pair) (p : Pair) → length (rows_from at (ps ++ p ∷ [])) ≡ length (rows_from at ps) + (18 + length p.key)
rows_push_at at [] p = let a = row_longer at p [] in omega (arith, a)
rows_push_at at (x ∷ ps) p =
    let ih = rows_push_at (at + length x.bytes) ps p in
    let a = row_longer at x (ps ++ p ∷ []) in
    let b = row_longer at x ps in
    omega (arith, ih, a, b)

pub rows_length_push : (ps : List Pair) (p : Pair) → length (rows_from 0 (ps ++ p ∷ [])) ≡ length (rows_from 0 ps) + (18 + length p.key)
rows_length_push ps p = rows_push_at 0 ps p

same_sym : (xs ys : List ℕ) → same_bytes xs ys ≡ same_bytes ys xs
same_sym [] [] = refl
same_sym [] (y ∷ ys) = refl
same_sym (x ∷ xs) [] = refl
same_sym (x ∷ xs) (y ∷ ys) = ap (λ (b : Bool). b && same_bytes xs ys) (swap x y) ∙ ap (λ (b : Bool). (y == x) && b) (same_sym xs ys)
  where
    swap : (x y : ℕ) → (x == y) ≡ (y == x)
    swap x y = grind (arith, nat_tests)

has_push : (ps : List Pair) (p : Pair) (key : List ℕ) → has_key (ps ++ p ∷ []) key ≡ (has_key ps key || same_bytes p.key key)
has_push [] p key = or_false (same_bytes p.key key)
  where
    or_false : (b : Bool) → (b || false) ≡ b
    or_false true = refl
    or_false false = refl
has_push (x ∷ ps) p key = ap (λ (b : Bool). same_bytes x.key key || b) (has_push ps p key) ∙ or_assoc (same_bytes x.key key) (has_key ps key) (same_bytes p.key key)
  where
    or_assoc : (a b c : Bool) → (a || (b || c)) ≡ ((a || b) || c)
    or_assoc true b c = refl
    or_assoc false b c = refl

pub distinct_push : (ps : List Pair) (p : Pair) → distinct (ps ++ p ∷ []) ≡ (if has_key ps p.key then distinct ps else distinct ps + 1)
distinct_push [] p = refl
distinct_push (x ∷ ps) p =
    ap (λ (b : Bool). (if b then 0 else 1) + distinct (ps ++ p ∷ [])) (has_push ps p x.key ∙ ap (λ (b : Bool). has_key ps x.key || b) (same_sym p.key x.key))
    ∙ ap (λ (n : ℕ). (if has_key ps x.key || same_bytes x.key p.key then 0 else 1) + n) (distinct_push ps p)
    ∙ cases (has_key ps x.key) (same_bytes x.key p.key) (has_key ps p.key) (distinct ps) (λ is. ap (has_key ps) (bytes_same x.key p.key is))
  where
    cases : (a d c : Bool) (n : ℕ) → (d ≡ true → a ≡ c) → (if a || d then 0 else 1) + (if c then n else n + 1) ≡ (if d || c then (if a then 0 else 1) + n else (if a then 0 else 1) + n + 1)
    cases a true c n same = ap (λ (b : Bool). (if b || true then 0 else 1) + (if c then n else n + 1)) (same refl) ∙ both c n ∙ sym (ap (λ (b : Bool). (if b then 0 else 1) + n) (same refl))
      where
        both : (c : Bool) (n : ℕ) → (if c || true then 0 else 1) + (if c then n else n + 1) ≡ (if c then 0 else 1) + n
        both true n = refl
        both false n = omega arith
    cases true false true n same = refl
    cases true false false n same = omega arith
    cases false false true n same = refl
    cases false false false n same = omega arith
