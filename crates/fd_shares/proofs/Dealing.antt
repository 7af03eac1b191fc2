-- Pairs that are dealt to workers.
use Rattle.std.proofs.Common.{◌≡◌, ◌==◌, ◌≤◌, ◌<◌, ◌+◌, ◌*◌, ◌/◌, ℕ, zero, suc, Bool, true, false, if◌then◌else◌, ◌&&◌, List, [], ◌∷◌, ◌++◌, length, All, Option, Some, None, ◌⊎◌, inl, inr, refl, sym, ap, ap₂, ◌∙◌, arith}
use Rattle.std.proofs.lemmas.Bool.Decides.{nat_tests}
use Rattle.std.proofs.lemmas.Nat.{le-div}
use Rattle.std.proofs.lemmas.List.Elements.{All-head, All-tail}
use Rattle.fd_entries.specs.declared.batch.Pair.{Pair}
use Rattle.fd_entries.specs.Batches.{newest, of_batch, or_older, same_bytes}
use Rattle.fd_shares.specs.Dealing.{Marked, AreAsOne, AreFew, batches_by, batches_of, dealt_to, flat}

or_assoc : {A : Type 0} (a b c : Option A) → or_older a (or_older b c) ≡ or_older (or_older a b) c
or_assoc (Some x) b c = refl
or_assoc None b c = refl

or_none : {A : Type 0} (o : Option A) → or_older o None ≡ o
or_none (Some x) = refl
or_none None = refl

newer_none : {A : Type 0} (a b : Option A) → or_older a b ≡ None → a ≡ None
newer_none (Some x) b e = absurd (cc e)
newer_none None b e = refl

older_none : {A : Type 0} (a b : Option A) → or_older a b ≡ None → b ≡ None
older_none (Some x) b e = absurd (cc e)
older_none None b e = e

pub equal_is : (m n : ℕ) → (m == n) ≡ true → m ≡ n
equal_is m n e = grind (arith, nat_tests)

pub equal_to : (m n : ℕ) → m ≡ n → (m == n) ≡ true
equal_to m n e = grind (arith, nat_tests)

pub equal_not : (m n : ℕ) → (m ≡ n → ⊥) → (m == n) ≡ false
equal_not m n not = go (m == n) refl
  where
    go : (b : Bool) → (m == n) ≡ b → (m == n) ≡ false
    go true e = absurd (not (equal_is m n e))
    go false e = e

same_is : (xs ys : List ℕ) → same_bytes xs ys ≡ true → xs ≡ ys
same_is [] [] e = refl
same_is [] (y ∷ ys) e = absurd (cc e)
same_is (x ∷ xs) [] e = absurd (cc e)
same_is (x ∷ xs) (y ∷ ys) e = go (λ f. same_is xs ys f) (x == y) refl e
  where
    go : (same_bytes xs ys ≡ true → xs ≡ ys) → (b : Bool) → (x == y) ≡ b → (b && same_bytes xs ys) ≡ true → x ∷ xs ≡ y ∷ ys
    go rest true is e = ap₂ (λ (n : ℕ) (ns : List ℕ). n ∷ ns) (equal_is x y is) (rest e)
    go rest false is e = absurd (cc e)

-- ---- the newest bytes

pub of_both : (a b : List Pair) (key : List ℕ) → of_batch (a ++ b) key ≡ or_older (of_batch b key) (of_batch a key)
of_both [] b key = sym (or_none (of_batch b key))
of_both (p ∷ ps) b key =
    ap (λ (o : Option (List ℕ)). or_older o (if same_bytes p.key key then Some p.bytes else None)) (of_both ps b key)
    ∙ sym (or_assoc (of_batch b key) (of_batch ps key) (if same_bytes p.key key then Some p.bytes else None))

pub newest_both : (t cs : List (List Pair)) (key : List ℕ) → newest (t ++ cs) key ≡ or_older (newest cs key) (newest t key)
newest_both [] cs key = sym (or_none (newest cs key))
newest_both (b ∷ t) cs key = ap (λ (o : Option (List ℕ)). or_older o (of_batch b key)) (newest_both t cs key) ∙ sym (or_assoc (newest cs key) (newest t key) (of_batch b key))

pub newest_flat : (bs : List (List Pair)) (key : List ℕ) → newest bs key ≡ of_batch (flat bs) key
newest_flat [] key = refl
newest_flat (b ∷ bs) key = ap (λ (o : Option (List ℕ)). or_older o (of_batch b key)) (newest_flat bs key) ∙ sym (of_both b (flat bs) key)

module _ (key : List ℕ) (w : ℕ) where
  -- no batch of another worker has the key
  abbrev OnlyBy : List Marked → Type 0
  OnlyBy ms = (v : ℕ) → (v ≡ w → ⊥) → of_batch (flat (batches_by v ms)) key ≡ None

  only_behind : (m : Marked) (ms : List Marked) → OnlyBy (m ∷ ms) → OnlyBy ms
  only_behind m ms only v other = go (m.worker == v) refl
    where
      go : (b : Bool) → (m.worker == v) ≡ b → of_batch (flat (batches_by v ms)) key ≡ None
      go true is = newer_none (of_batch (flat (batches_by v ms)) key) (of_batch m.batch key)
          (sym (of_both m.batch (flat (batches_by v ms)) key) ∙ sym (ap (λ (b : Bool). of_batch (flat (if b then m.batch ∷ batches_by v ms else batches_by v ms)) key) is) ∙ only v other)
      go false is = sym (ap (λ (b : Bool). of_batch (flat (if b then m.batch ∷ batches_by v ms else batches_by v ms)) key) is) ∙ only v other

  none_here : (m : Marked) (ms : List Marked) → OnlyBy (m ∷ ms) → (m.worker ≡ w → ⊥) → of_batch m.batch key ≡ None
  none_here m ms only other =
      older_none (of_batch (flat (batches_by m.worker ms)) key) (of_batch m.batch key)
      (sym (of_both m.batch (flat (batches_by m.worker ms)) key)
      ∙ sym (ap (λ (b : Bool). of_batch (flat (if b then m.batch ∷ batches_by m.worker ms else batches_by m.worker ms)) key) (equal_to m.worker m.worker refl)) ∙ only m.worker other)

  -- leaving out the batches of other workers changes nothing
  newest_by : (ms : List Marked) → OnlyBy ms → newest (batches_of ms) key ≡ newest (batches_by w ms) key
  newest_by [] only = refl
  newest_by (m ∷ ms) only = go (newest_by ms (only_behind m ms only)) (m.worker == w) refl
    where
      go : newest (batches_of ms) key ≡ newest (batches_by w ms) key → (b : Bool) → (m.worker == w) ≡ b → newest (m.batch ∷ batches_of ms) key ≡ newest (batches_by w (m ∷ ms)) key
      go rest true is = ap (λ (o : Option (List ℕ)). or_older o (of_batch m.batch key)) rest ∙ sym (ap (λ (b : Bool). newest (if b then m.batch ∷ batches_by w ms else batches_by w ms) key) is)
      go rest false is =
          ap (or_older (newest (batches_of ms) key)) (none_here m ms only (λ e. absurd (cc (is, equal_to m.worker w e))))
          ∙ or_none (newest (batches_of ms) key) ∙ rest ∙ sym (ap (λ (b : Bool). newest (if b then m.batch ∷ batches_by w ms else batches_by w ms) key) is)

module _ (deal : List ℕ → ℕ) (key : List ℕ) where
  -- the pairs of the worker to which the key is dealt answer as all pairs do
  of_its : (ps : List Pair) → of_batch (dealt_to deal (deal key) ps) key ≡ of_batch ps key
  of_its [] = refl
  of_its (p ∷ ps) = go (of_its ps) (deal p.key == deal key) refl (same_bytes p.key key) refl
    where
      one : Bool → Option (List ℕ)
      one b = if b then Some p.bytes else None

      go : of_batch (dealt_to deal (deal key) ps) key ≡ of_batch ps key → (b : Bool) → (deal p.key == deal key) ≡ b → (s : Bool) → same_bytes p.key key ≡ s → of_batch (dealt_to deal (deal key) (p ∷ ps)) key ≡ of_batch (p ∷ ps) key
      go rest true is s t = ap (λ (b : Bool). of_batch (if b then p ∷ dealt_to deal (deal key) ps else dealt_to deal (deal key) ps) key) is ∙ ap (λ (o : Option (List ℕ)). or_older o (if same_bytes p.key key then Some p.bytes else None)) rest
      go rest false is true t = absurd (cc (is, equal_to (deal p.key) (deal key) (ap deal (same_is p.key key t))))
      go rest false is false t =
          ap (λ (b : Bool). of_batch (if b then p ∷ dealt_to deal (deal key) ps else dealt_to deal (deal key) ps) key) is ∙ rest
          ∙ sym (or_none (of_batch ps key)) ∙ sym (ap (λ (b : Bool). or_older (of_batch ps key) (if b then Some p.bytes else None)) t)

  -- the pairs of another worker don't have the key
  of_others : (v : ℕ) → (v ≡ deal key → ⊥) → (ps : List Pair) → of_batch (dealt_to deal v ps) key ≡ None
  of_others v other [] = refl
  of_others v other (p ∷ ps) = go (of_others v other ps) (deal p.key == v) refl (same_bytes p.key key) refl
    where
      go : of_batch (dealt_to deal v ps) key ≡ None → (b : Bool) → (deal p.key == v) ≡ b → (s : Bool) → same_bytes p.key key ≡ s → of_batch (dealt_to deal v (p ∷ ps)) key ≡ None
      go rest false is s t = ap (λ (b : Bool). of_batch (if b then p ∷ dealt_to deal v ps else dealt_to deal v ps) key) is ∙ rest
      go rest true is true t = absurd (other (sym (equal_is (deal p.key) v is) ∙ ap deal (same_is p.key key t)))
      go rest true is false t =
          ap (λ (b : Bool). of_batch (if b then p ∷ dealt_to deal v ps else dealt_to deal v ps) key) is
          ∙ ap (λ (o : Option (List ℕ)). or_older o (if same_bytes p.key key then Some p.bytes else None)) rest ∙ ap (λ (b : Bool). or_older None (if b then Some p.bytes else None)) t

pub are_as_one : AreAsOne
are_as_one deal before marked pairs listed key =
    newest_both before (batches_of marked) key
    ∙ ap (λ (o : Option (List ℕ)). or_older o (newest before key))
    (newest_by key (deal key) marked (λ v other. ap (λ (ps : List Pair). of_batch ps key) (listed v) ∙ of_others deal key v other pairs)
    ∙ newest_flat (batches_by (deal key) marked) key ∙ ap (λ (ps : List Pair). of_batch ps key) (listed (deal key)) ∙ of_its deal key pairs)

-- ---- how many batches

-- the sum of what the workers below a number have
abbrev pub total : (ℕ → ℕ) → ℕ → ℕ
total f zero = 0
total f (suc n) = total f n + f n

total_same : (f g : ℕ → ℕ) (n : ℕ) → ((w : ℕ) → f w ≡ g w) → total f n ≡ total g n
total_same f g zero same = refl
total_same f g (suc n) same = ap₂ (λ (a b : ℕ). a + b) (total_same f g n same) (same n)

pub total_first : (f : ℕ → ℕ) (n : ℕ) → total f (suc n) ≡ f 0 + total (λ w. f (suc w)) n
total_first f zero = omega arith
total_first f (suc n) = let e = total_first f n in omega (arith, e)

-- one worker has one more
abbrev with_one : ℕ → (ℕ → ℕ) → ℕ → ℕ
with_one v f w = if v == w then suc (f w) else f w

total_beyond : (v : ℕ) (f : ℕ → ℕ) (n : ℕ) → n ≤ v → total (with_one v f) n ≡ total f n
total_beyond v f zero le = refl
total_beyond v f (suc n) le = ap₂ (λ (a b : ℕ). a + b) (total_beyond v f n (omega arith)) (ap (λ (b : Bool). if b then suc (f n) else f n) (equal_not v n (λ e. absurd (omega arith))))

total_one : (v : ℕ) (f : ℕ → ℕ) (n : ℕ) → v < n → total (with_one v f) n ≡ suc (total f n)
total_one v f zero lt = absurd (omega arith)
total_one v f (suc n) lt = go (λ less. total_one v f n less) (v == n) refl
  where
    below : (m : ℕ) → (v == m) ≡ false → v < suc m → v < m
    below m is lt = grind (arith, nat_tests)

    go : (v < n → total (with_one v f) n ≡ suc (total f n)) → (b : Bool) → (v == n) ≡ b → total (with_one v f) n + with_one v f n ≡ suc (total f n + f n)
    go one true is = let e = ap (λ (b : Bool). if b then suc (f n) else f n) is in let same = equal_is v n is in let rest = total_beyond v f n (omega arith) in omega arith
    go one false is = let e = ap (λ (b : Bool). if b then suc (f n) else f n) is in let rest = one (below n is lt) in omega arith

total_up : (v : ℕ) (f : ℕ → ℕ) (n : ℕ) → total (with_one v f) n ≤ suc (total f n)
total_up v f n = go (inl_or v n)
  where
    inl_or : (v n : ℕ) → (v < n) ⊎ (n ≤ v)
    inl_or v n = grind arith

    go : (v < n) ⊎ (n ≤ v) → total (with_one v f) n ≤ suc (total f n)
    go (inl lt) = let e = total_one v f n lt in omega arith
    go (inr le) = let e = total_beyond v f n le in omega arith

by_length : (m : Marked) (ms : List Marked) (w : ℕ) → length (batches_by w (m ∷ ms)) ≡ with_one m.worker (λ v. length (batches_by v ms)) w
by_length m ms w = go (m.worker == w) refl
  where
    go : (b : Bool) → (m.worker == w) ≡ b → length (batches_by w (m ∷ ms)) ≡ with_one m.worker (λ v. length (batches_by v ms)) w
    go true is = ap (λ (b : Bool). length (if b then m.batch ∷ batches_by w ms else batches_by w ms)) is ∙ sym (ap (λ (b : Bool). if b then suc (length (batches_by w ms)) else length (batches_by w ms)) is)
    go false is = ap (λ (b : Bool). length (if b then m.batch ∷ batches_by w ms else batches_by w ms)) is ∙ sym (ap (λ (b : Bool). if b then suc (length (batches_by w ms)) else length (batches_by w ms)) is)

dealt_length : (deal : List ℕ → ℕ) (p : Pair) (ps : List Pair) (w : ℕ) → length (dealt_to deal w (p ∷ ps)) ≡ with_one (deal p.key) (λ v. length (dealt_to deal v ps)) w
dealt_length deal p ps w = go (deal p.key == w) refl
  where
    go : (b : Bool) → (deal p.key == w) ≡ b → length (dealt_to deal w (p ∷ ps)) ≡ with_one (deal p.key) (λ v. length (dealt_to deal v ps)) w
    go true is = ap (λ (b : Bool). length (if b then p ∷ dealt_to deal w ps else dealt_to deal w ps)) is ∙ sym (ap (λ (b : Bool). if b then suc (length (dealt_to deal w ps)) else length (dealt_to deal w ps)) is)
    go false is = ap (λ (b : Bool). length (if b then p ∷ dealt_to deal w ps else dealt_to deal w ps)) is ∙ sym (ap (λ (b : Bool). if b then suc (length (dealt_to deal w ps)) else length (dealt_to deal w ps)) is)

none_total : (n : ℕ) → total (λ w. 0) n ≡ 0
none_total zero = refl
none_total (suc n) = let rest = none_total n in omega arith

all_batches : (n : ℕ) (ms : List Marked) → All (λ (m : Marked). m.worker < n) ms → total (λ w. length (batches_by w ms)) n ≡ length (batches_of ms)
all_batches n [] below = none_total n
all_batches n (m ∷ ms) below =
    total_same (λ w. length (batches_by w (m ∷ ms))) (with_one m.worker (λ v. length (batches_by v ms))) n (by_length m ms)
    ∙ total_one m.worker (λ v. length (batches_by v ms)) n (All-head (λ (m : Marked). m.worker < n) m ms below)
    ∙ ap suc (all_batches n ms (All-tail (λ (m : Marked). m.worker < n) m ms below))

pub some_pairs : (deal : List ℕ → ℕ) (n : ℕ) (ps : List Pair) → total (λ w. length (dealt_to deal w ps)) n ≤ length ps
some_pairs deal n [] = let e = none_total n in omega arith
some_pairs deal n (p ∷ ps) =
    let e = total_same (λ w. length (dealt_to deal w (p ∷ ps))) (with_one (deal p.key) (λ v. length (dealt_to deal v ps))) n (dealt_length deal p ps) in
    let up = total_up (deal p.key) (λ v. length (dealt_to deal v ps)) n in
    let rest = some_pairs deal n ps in omega arith

pub total_bound : (f g : ℕ → ℕ) (n : ℕ) → ((w : ℕ) → w < n → 512 * f w ≤ g w + 512) → 512 * total f n ≤ total g n + 512 * n
total_bound f g zero each = omega arith
total_bound f g (suc n) each = let rest = total_bound f g n (λ w lt. each w (omega arith)) in let here = each n (omega arith) in omega arith

pub few_of : (n m k : ℕ) → 512 * n ≤ k + 512 * m → n ≤ m + k / 512
few_of n m k le = go (le_or n m)
  where
    up : (a b : ℕ) → (a ≤ b) ⊎ ((d : ℕ) × (a ≡ b + d)) → (suc a ≤ suc b) ⊎ ((d : ℕ) × (suc a ≡ suc b + d))
    up a b (inl p) = inl (omega arith)
    up a b (inr q) = inr (q.0, (let e = q.1 in omega arith))

    le_or : (a b : ℕ) → (a ≤ b) ⊎ ((d : ℕ) × (a ≡ b + d))
    le_or zero b = inl (omega arith)
    le_or (suc a) zero = inr (suc a, omega arith)
    le_or (suc a) (suc b) = up a b (le_or a b)

    go : (n ≤ m) ⊎ ((d : ℕ) × (n ≡ m + d)) → n ≤ m + k / 512
    go (inl p) = omega arith
    go (inr q) = let e = q.1 in let d = le-div q.0 k 512 (omega arith) (omega arith) in omega arith

pub are_few : AreFew
are_few deal workers marked pairs below each =
    let all = all_batches workers marked below in
    let some = some_pairs deal workers pairs in
    let bound = total_bound (λ w. length (batches_by w marked)) (λ w. length (dealt_to deal w pairs)) workers each in
    few_of (length (batches_of marked)) workers (length pairs) (omega arith)
