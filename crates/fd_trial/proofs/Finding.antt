-- What a trial finds of what it stored.
use Rattle.std.proofs.Common.{◌≡◌, ◌∙◌, ℕ, zero, suc, Bool, true, false, true≢false, List, [], ◌∷◌, ◌++◌, map, Option, Some, None, refl, sym, ap, subst, arith, cond, inl, inr, ◌&&◌, ◌||◌}
use Rattle.std.specs.Prelude.{◌⊎◌, Contains, is_some, option_map}
use Rattle.std.specs.Str.{bytes_eq}
use Rattle.std.proofs.lemmas.Slice.Eq.{bytes_eq-Decides}
use Rattle.fd_disk.specs.Folders.{Holdings, folder_at}
use Rattle.fd_entries.specs.declared.batch.Pair.{Pair}
use Rattle.fd_entries.specs.Batches.{newest, of_batch, or_older, same_bytes}
use Rattle.std.proofs.lemmas.Bool.Decides.{nat_tests}
use Rattle.fd_schema.specs.Rules.{Texts, file_key}
use Rattle.fd_stored.specs.Archiving.{Stored, datasets_in, pairs_for}
use Rattle.fd_stored.specs.Distinct.{is_among}
use Rattle.fd_stored.specs.Causes.{Broken}
use Rattle.fd_outcome.specs.Outcome.{are_told}
use Rattle.fd_stored.specs.Store.{AddsAll, GrowsBy, Stands, table_at}
use Rattle.fd_outcome.specs.Trying.{trial_answer}
use Rattle.fd_outcome.proofs.Damaging.{damaged_held}
use Rattle.fd_retrieve.specs.Counting.{all_found, finds}
use Rattle.fd_trial.proofs.Keeping.{AreStored}

abbrev Found : Type 0
Found = Option (List ℕ)

cons_cases : {X : Type 0} (x z : X) (xs : List X) → Contains (x ∷ xs) z → (x ≡ z) ⊎ Contains xs z
cons_cases x z xs (zero, lt, e) = inl e
cons_cases x z xs (suc k, lt, e) = inr (k, omega arith, e)

none_there : {X : Type 0} (z : X) → Contains [] z → ⊥
none_there z (k, lt, e) = omega (arith, lt)

later_there : {X : Type 0} (x z : X) (xs : List X) → Contains xs z → Contains (x ∷ xs) z
later_there x z xs (k, lt, e) = (suc k, omega (arith, lt), e)

-- ---- a message that is stored is found in a batch of all

some_or : (a b : Found) → is_some b ≡ true → is_some (or_older a b) ≡ true
some_or None b h = h
some_or (Some x) b h = refl

or_some : (a b : Found) → is_some a ≡ true → is_some (or_older a b) ≡ true
or_some None b h = absurd (true≢false (sym h))
or_some (Some x) b h = refl

same_refl : (xs : List ℕ) → same_bytes xs xs ≡ true
same_refl [] = refl
same_refl (x ∷ xs) = let ih = same_refl xs in grind (arith, nat_tests, ih)

same_name : (a : List ℕ) → bytes_eq a a ≡ true
same_name a = (bytes_eq-Decides a a).1 refl

pair_first : (s : Stored) (ss : List Stored) → is_some (of_batch (pairs_for (s ∷ ss) s.dataset) s.pair.key) ≡ true
pair_first s ss =
    rw (same_name s.dataset) (some_or (of_batch (pairs_for ss s.dataset) s.pair.key) (cond (same_bytes s.pair.key s.pair.key) (Some s.pair.bytes) None)
    (ap (λ (b : Bool). is_some (cond b (Some s.pair.bytes) None)) (same_refl s.pair.key)))

pair_later : (x : Stored) (ss : List Stored) (name key : List ℕ) (b : Bool) → bytes_eq x.dataset name ≡ b → is_some (of_batch (pairs_for ss name) key) ≡ true → is_some (of_batch (pairs_for (x ∷ ss) name) key) ≡ true
pair_later x ss name key true is h = rw is (or_some (of_batch (pairs_for ss name) key) (cond (same_bytes x.pair.key key) (Some x.pair.bytes) None) h)
pair_later x ss name key false is h = rw is h

pair_found : (ss : List Stored) (s : Stored) → Contains ss s → is_some (trial_answer ss s) ≡ true
pair_found [] s there = absurd (none_there s there)
pair_found (x ∷ xs) s there = elim (cons_cases x s xs there) as (λ _. is_some (trial_answer (x ∷ xs) s) ≡ true) [
  | inl here ↦ subst (λ (y : Stored). is_some (trial_answer (x ∷ xs) y) ≡ true) here (pair_first x xs)
  | inr later ↦ pair_later x xs s.dataset s.pair.key (bytes_eq x.dataset s.dataset) refl (pair_found xs s later)
]

-- ---- what its dataset holds then

-- the newest bytes under its key are those
pub record IsFoundIn (i : Holdings) (all : List Stored) (s : Stored) : Type 0 where
  pub table : List (List Pair)
  pub told : table_at i s.dataset ≡ Some table
  pub newest_is : newest table s.pair.key ≡ trial_answer all s

first_some : (a b : Found) → is_some a ≡ true → or_older a b ≡ a
first_some None b h = absurd (true≢false (sym h))
first_some (Some x) b h = refl

found_by : (workers : ℕ) (i : Holdings) (all : List Stored) (s : Stored) (t : List (List Pair)) → AddsAll workers (pairs_for all s.dataset) t (table_at i s.dataset) → Contains all s → IsFoundIn i all s
found_by workers i all s t adds there = record {
  table = t ++ adds.adds.added;
  told = adds.adds.after_is;
  newest_is = adds.newest_is (t ++ adds.adds.added) adds.adds.after_is s.pair.key ∙ first_some (trial_answer all s) (newest t s.pair.key) (pair_found all s there);
}

found_in : (workers : ℕ) (m i : Holdings) (all : List Stored) (s : Stored) → GrowsBy workers (pairs_for all) m i → Contains all s → (o : Option (List (List Pair))) → table_at m s.dataset ≡ o → is_some o ≡ true → IsFoundIn i all s
found_in workers m i all s grows there None e told = absurd (true≢false (sym told))
found_in workers m i all s grows there (Some t) e told = found_by workers i all s t (grows.each s.dataset t e) there

told_one : (h : Holdings) (ss : List Stored) (s : Stored) → are_told h (datasets_in ss) ≡ true → Contains ss s → is_some (table_at h s.dataset) ≡ true
told_one h [] s all there = absurd (none_there s there)
told_one h (x ∷ xs) s all there = elim (cons_cases x s xs there) as (λ _. is_some (table_at h s.dataset) ≡ true) [
  | inl here ↦ subst (λ (y : Stored). is_some (table_at h y.dataset) ≡ true) here (first_true _ _ all)
  | inr later ↦ told_one h xs s (rest_true (is_some (table_at h x.dataset)) _ all) later
]
  where
    first_true : (a b : Bool) → (a && b) ≡ true → a ≡ true
    first_true true b e = refl
    first_true false b e = e

    rest_true : (a b : Bool) → (a && b) ≡ true → b ≡ true
    rest_true true b e = e
    rest_true false b e = absurd (true≢false (sym e))

-- ---- all that is asked for

finds_each : (i : Holdings) (all : List Stored) (ps : List Texts) (ss : List Stored) → AreStored ps ss → ((s : Stored) → Contains ss s → IsFoundIn i all s) → finds (table_at i) ps ≡ Some (map (trial_answer all) ss)
finds_each i all [] [] are each = refl
finds_each i all [] (s ∷ ss) are each = absurd are
finds_each i all (p ∷ ps) [] are each = absurd are
finds_each i all (p ∷ ps) (s ∷ ss) (here, later) each =
    let f = each s (0, omega arith, refl) in
    let told : table_at i p.dataset ≡ Some f.table = ap (table_at i) (sym here.0) ∙ f.told in
    let same : newest f.table (file_key p) ≡ trial_answer all s = ap (newest f.table) (sym here.1) ∙ f.newest_is in
    let rest = finds_each i all ps ss later (λ x there. each x (later_there s x ss there)) in
    ap (λ o. all_found (option_map (λ (t : List (List Pair)). newest t (file_key p)) o) (finds (table_at i) ps)) told
    ∙ ap (all_found (Some (newest f.table (file_key p)))) rest
    ∙ ap (λ (x : Found). Some (x ∷ map (trial_answer all) ss)) same

-- what is found of all messages that were stored, where no dataset of theirs was damaged
pub finds_stored : (workers : ℕ) (m i : Holdings) (ps : List Texts) (all : List Stored) → AreStored ps all → GrowsBy workers (pairs_for all) m i → are_told m (datasets_in all) ≡ true → finds (table_at i) ps ≡ Some (map (trial_answer all) all)
finds_stored workers m i ps all are grows told = finds_each i all ps all are (λ s there. found_in workers m i all s grows there (table_at m s.dataset) refl (told_one m all s told there))

-- ---- a dataset that is broken then was damaged before

pub broken_before : (workers : ℕ) (pairs : List ℕ → List Pair) (m i : Holdings) (name : List ℕ) (broken : Broken) → GrowsBy workers pairs m i → Stands name (folder_at i name) broken → table_at m name ≡ None
broken_before workers pairs m i name broken grows stands = go (table_at m name) refl
  where
    go : (o : Option (List (List Pair))) → table_at m name ≡ o → o ≡ None
    go None e = refl
    go (Some t) e = absurd (true≢false (ap is_some (sym (grows.each name t e).adds.after_is ∙ damaged_held name (folder_at i name) broken stands)))

-- a dataset of the places is one of what is stored
pub among_stored : (ps : List Texts) (ss : List Stored) (name : List ℕ) → AreStored ps ss → is_among (map (λ (p : Texts). p.dataset) ps) name ≡ true → Contains (datasets_in ss) name
among_stored [] [] name are among = absurd (true≢false (sym among))
among_stored [] (s ∷ ss) name are among = absurd are
among_stored (p ∷ ps) [] name are among = absurd are
among_stored (p ∷ ps) (s ∷ ss) name (here, later) among = go (bytes_eq name p.dataset) refl (among_stored ps ss name later) among
  where
    go : (b : Bool) → bytes_eq name p.dataset ≡ b → (is_among (map (λ (p : Texts). p.dataset) ps) name ≡ true → Contains (datasets_in ss) name) → (b || is_among (map (λ (p : Texts). p.dataset) ps) name) ≡ true → Contains (datasets_in (s ∷ ss)) name
    go true e more h = (0, omega arith, here.0 ∙ sym ((bytes_eq-Decides name p.dataset).0 e))
    go false e more h = later_there s.dataset name (datasets_in ss) (more h)
