-- Keys: of pairs, of records and of puts.
use Rattle.std.proofs.Common.{◌≡◌, ◌⊎◌, inl, inr, ℕ, Bool, true, false, ◌&&◌, ◌==◌, if◌then◌else◌, List, [], ◌∷◌, ◌++◌, reverse, bytes_eq, Option, Some, None, is_some, Less, refl, sym, ap, ◌∙◌, arith}
use Rattle.std.specs.List.{AllByRecursion}
use Rattle.std.specs.List.Sorted.{IsStrictlySortedBy}
use Rattle.std.specs.Ordering.{nat_cmp}
use Rattle.std.specs.Cmp.Lexicographic.{slice_cmp}
use Rattle.std.proofs.lemmas.Bool.Decides.{nat_tests}
use Rattle.std.proofs.lemmas.Cmp.{nat_list_cmp_total, tied_itself}
use Rattle.std.proofs.lemmas.List.{reverse-append}
use Rattle.std.proofs.lemmas.Slice.Eq.{bytes_eq-Decides}
use Rattle.fd_entries.specs.Batches.{or_older, same_bytes}
use Rattle.fd_index.specs.Records.{Record, Rising, keys, newest, place_of}
use Rattle.fd_segment.proofs.Differing.{Differ, IsIn}

-- the two tests on keys are one
pub same_as_eq : (xs ys : List ℕ) → same_bytes xs ys ≡ bytes_eq ys xs
same_as_eq [] [] = refl
same_as_eq [] (y ∷ ys) = refl
same_as_eq (x ∷ xs) [] = refl
same_as_eq (x ∷ xs) (y ∷ ys) = ap (λ (b : Bool). b && same_bytes xs ys) (swap x y) ∙ ap (λ (b : Bool). (y == x) && b) (same_as_eq xs ys)
  where
    swap : (x y : ℕ) → (x == y) ≡ (y == x)
    swap x y = grind (arith, nat_tests)

pub eq_is : (a b : List ℕ) → bytes_eq a b ≡ true → a ≡ b
eq_is a b h = (bytes_eq-Decides a b).0 h

pub eq_refl : (a : List ℕ) → bytes_eq a a ≡ true
eq_refl a = (bytes_eq-Decides a a).1 refl

pub true_or_false : (b : Bool) → (b ≡ true) ⊎ (b ≡ false)
true_or_false true = inl refl
true_or_false false = inr refl

-- ---- The last record with a key

abbrev pub one : List ℕ → Record → Option (ℕ × ℕ)
one key r = if bytes_eq key r.key then Some (r.at, r.len) else None

abbrev pub last_place : List ℕ → List Record → Option (ℕ × ℕ)
last_place key [] = None
last_place key (r ∷ rs) = or_older (last_place key rs) (one key r)

pub place_append : (key : List ℕ) (xs ys : List Record) → place_of key (xs ++ ys) ≡ or_older (place_of key xs) (place_of key ys)
place_append key [] ys = refl
place_append key (x ∷ xs) ys = go (bytes_eq key x.key) (place_append key xs ys)
  where
    go : (b : Bool) → place_of key (xs ++ ys) ≡ or_older (place_of key xs) (place_of key ys) → (if b then Some (x.at, x.len) else place_of key (xs ++ ys)) ≡ or_older (if b then Some (x.at, x.len) else place_of key xs) (place_of key ys)
    go true ih = refl
    go false ih = ih

pub newest_last : (key : List ℕ) (puts : List Record) → newest key puts ≡ last_place key puts
newest_last key [] = refl
newest_last key (r ∷ rs) =
    ap (place_of key) (reverse-append (r ∷ []) rs)
    ∙ place_append key (reverse rs) (r ∷ [])
    ∙ ap (λ (o : Option (ℕ × ℕ)). or_older o (one key r)) (newest_last key rs)

-- ---- Keys that rise differ

rise_apart : (k : List ℕ) (ks : List (List ℕ)) → AllByRecursion (λ y. slice_cmp nat_cmp k y ≡ Less) ks → IsIn ks k → ⊥
rise_apart k [] all p = p
rise_apart k (y ∷ ys) all (inl e) = let tied = tied_itself nat_list_cmp_total k in let less = ap (slice_cmp nat_cmp k) (sym e) ∙ all.0 in absurd (cc (tied, less))
rise_apart k (y ∷ ys) all (inr p) = rise_apart k ys all.1 p

keys_differ : (ks : List (List ℕ)) → IsStrictlySortedBy (slice_cmp nat_cmp) ks → Differ ks
unfolding IsStrictlySortedBy
keys_differ [] h = tt
keys_differ (k ∷ ks) h = (rise_apart k ks h.0, keys_differ ks h.1)

pub rising_differ : (rs : List Record) → Rising rs → Differ (keys rs)
rising_differ rs h = keys_differ (keys rs) h

-- ---- Which keys stand among records

pub place_in : (key : List ℕ) (rs : List Record) → is_some (place_of key rs) ≡ true → IsIn (keys rs) key
place_in key [] h = absurd (cc h)
place_in key (r ∷ rs) h = go (place_in key rs) (true_or_false (bytes_eq key r.key))
  where
    go : (is_some (place_of key rs) ≡ true → IsIn (keys rs) key) → (bytes_eq key r.key ≡ true) ⊎ (bytes_eq key r.key ≡ false) → IsIn (keys (r ∷ rs)) key
    go rest (inl e) = inl (sym (eq_is key r.key e))
    go rest (inr e) = inr (rest (sym (ap (λ (b : Bool). is_some (if b then Some (r.at, r.len) else place_of key rs)) e) ∙ h))

pub in_place : (key : List ℕ) (rs : List Record) → IsIn (keys rs) key → is_some (place_of key rs) ≡ true
in_place key [] h = absurd h
in_place key (r ∷ rs) (inl e) = ap (λ (k : List ℕ). is_some (if bytes_eq k r.key then Some (r.at, r.len) else place_of key rs)) (sym e) ∙ ap (λ (b : Bool). is_some (if b then Some (r.at, r.len) else place_of key rs)) (eq_refl r.key)
in_place key (r ∷ rs) (inr p) = go (bytes_eq key r.key) (in_place key rs p)
  where
    go : (b : Bool) → is_some (place_of key rs) ≡ true → is_some (if b then Some (r.at, r.len) else place_of key rs) ≡ true
    go true h = refl
    go false h = h
