-- Batches of a table and records of a batch, from the last one on.
use Rattle.std.proofs.Common.{◌≡◌, ℕ, zero, suc, ◌+◌, ◌≤◌, true, List, [], ◌∷◌, ◌++◌, length, map, take, drop, slice_get, Some, refl, sym, ap, subst, arith, length-take}
use Rattle.std.proofs.lemmas.Option.{get_or_from_slice_get, slice_get_within}
use Rattle.std.specs.Prelude.{Result, Ok, Err, OnOk}
use Rattle.std.specs.List.{Contains}
use Rattle.fd_entries.specs.declared.batch.Listing.{Listing}
use Rattle.fd_entries.specs.declared.batch.Pair.{Pair}
use Rattle.fd_index.specs.Records.{Record}
use Rattle.fd_segment.specs.declared.fault.LensFault.{LensFault}
use Rattle.fd_segment.specs.declared.fault.LensFault.TheVariants as lenses
use Rattle.fd_segment.specs.Causes.{IsBadIndex, OnDamaged}
use Rattle.fd_segment.specs.Held.{Standing}
use Rattle.fd_request.specs.Expansion.{Keyword}
use Rattle.fd_inventory.specs.Shown.{AreLengths, AreRows, IsNewestUnless, Kept}
use Rattle.fd_inventory.specs.Indexes.{IsAmongBad, Tells}
use Rattle.fd_outcome.specs.Rows.{Row, Stored, matches, put_matching, rows_from, rows_of_batch, stored}
use Rattle.fd_inventory.proofs.Newness.{is_newest}

pub on_ok : {A E P Q : Type 0} → (P → Q) → (r : Result A E) → OnOk r P → OnOk r Q
on_ok f (Ok x) p = f p
on_ok f (Err e) p = tt

-- ---- an element with what stands before it and behind it

pub record Stands {A : Type 0} (xs : List A) (n m : ℕ) (x : A) : Type 0 where
  pub split : xs ≡ take n xs ++ x ∷ drop m xs
  pub rest : drop n xs ≡ x ∷ drop m xs

stands_next : {A : Type 0} (xs : List A) (n : ℕ) (x : A) → slice_get xs n ≡ Some x → Stands xs n (suc n) x
stands_next [] n x h = absurd (none n h)
  where
    none : (n : ℕ) → slice_get [] n ≡ Some x → ⊥
    none zero h = cc h
    none (suc n) h = cc h
stands_next (y ∷ ys) zero x h = let e : y ≡ x = cc h in record { split = ap (λ z. z ∷ ys) e; rest = ap (λ z. z ∷ ys) e }
stands_next (y ∷ ys) (suc n) x h = let s = stands_next ys n x h in record { split = ap (λ zs. y ∷ zs) s.split; rest = s.rest }

pub stands : {A : Type 0} (xs : List A) (n m : ℕ) (x : A) → m ≡ n + 1 → slice_get xs n ≡ Some x → Stands xs n m x
stands xs n m x next h =
    let e : suc n ≡ m = omega (arith, next) in
    subst (λ k. Stands xs n k x) e (stands_next xs n x h)

pub none_left : {A : Type 0} (xs : List A) (n : ℕ) → length xs ≤ n → drop n xs ≡ []
none_left [] zero h = refl
none_left [] (suc n) h = refl
none_left (x ∷ xs) zero h = absurd (omega (arith, h))
none_left (x ∷ xs) (suc n) h = none_left xs n (omega (arith, h))

-- ---- the records of a batch

zip_length : (rs : List Record) (b : List Pair) → AreLengths rs b → length b ≡ length rs
zip_length [] [] h = refl
zip_length [] (p ∷ ps) h = absurd h
zip_length (r ∷ rs) [] h = absurd h
zip_length (r ∷ rs) (p ∷ ps) h = ap suc (zip_length rs ps h.1)

pub pair_at : (rs : List Record) (b : List Pair) (n : ℕ) (r : Record) → AreLengths rs b → slice_get rs n ≡ Some r → (p : Pair) × (slice_get b n ≡ Some p) × (r.key ≡ p.key) × (r.len ≡ length p.bytes)
pair_at [] [] n r h at = absurd (none n at)
  where
    none : (n : ℕ) → slice_get [] n ≡ Some r → ⊥
    none zero h = cc h
    none (suc n) h = cc h
pair_at [] (p ∷ ps) n r h at = absurd h
pair_at (x ∷ rs) [] n r h at = absurd h
pair_at (x ∷ rs) (p ∷ ps) zero r h at = let e : x ≡ r = cc at in (p, refl, subst (λ y. y.key ≡ p.key) e h.0.0, subst (λ y. y.len ≡ length p.bytes) e h.0.1)
pair_at (x ∷ rs) (p ∷ ps) (suc n) r h at = pair_at rs ps n r h.1 at

module _ (dataset : List ℕ) (keywords : List Keyword) where
  abbrev pub table_of : List (List Pair) → List Pair → List (List Pair) → List (List Pair)
  table_of front b later = front ++ b ∷ later

  -- the rows of the later batches, and of the last pairs of this one
  abbrev pub rows_behind : List (List Pair) → List Pair → List (List Pair) → ℕ → List Row
  rows_behind front b later n = rows_of_batch dataset keywords (table_of front b later) (drop n b) (rows_from dataset keywords (table_of front b later) later)

  -- Before the last record these are the rows of the later batches.
  pub start : (front later : List (List Pair)) (b : List Pair) (rs : List Record) (es : List Kept) → AreLengths rs b → AreRows es (rows_from dataset keywords (table_of front b later) later) → AreRows es (rows_behind front b later (length rs))
  start front later b rs es lengths rows =
      let none = none_left b (length rs) (omega (arith, zip_length rs b lengths)) in
      subst (λ ps. AreRows es (rows_of_batch dataset keywords (table_of front b later) ps (rows_from dataset keywords (table_of front b later) later))) (sym none) rows

  -- one record more
  pub more : (front later : List (List Pair)) (b : List Pair) (rs : List Record) (n m : ℕ) (r : Record) (number : ℕ) (old new : List Kept) → AreLengths rs b → m ≡ n + 1 → slice_get rs n ≡ Some r → number ≡ 1 + length front
      → ((t : List (List Pair)) (xs : List Row) → ((s : Stored) → stored dataset r.key ≡ Some s → matches keywords s.pairs ≡ true → IsNewestUnless t xs r.key s r.len number) → AreRows old xs → AreRows new (put_matching keywords t r.key (stored dataset r.key) xs))
      → AreRows old (rows_behind front b later m) → AreRows new (rows_behind front b later n)
  more front later b rs n m r number old new lengths next at numbered adds rows =
      let p = pair_at rs b n r lengths at in
      let s = stands b n m p.0 next p.1 in
      let xs = rows_behind front b later m in
      let t = table_of front b later in
      let newness : (x : Stored) → stored dataset p.0.key ≡ Some x → matches keywords x.pairs ≡ true → IsNewestUnless t xs p.0.key x (length p.0.bytes) (1 + length front) =
      λ x is asked. subst (λ c. IsNewestUnless (table_of front c later) (rows_of_batch dataset keywords (table_of front c later) (drop m b) (rows_from dataset keywords (table_of front c later) later)) p.0.key x (length p.0.bytes) (1 + length front)) (sym s.split)
      (is_newest dataset keywords front (take n b) p.0 (drop m b) later x is asked) in
      let added : AreRows new (put_matching keywords t r.key (stored dataset r.key) xs) =
      adds t xs (subst (λ k. (x : Stored) → stored dataset k ≡ Some x → matches keywords x.pairs ≡ true → IsNewestUnless t xs k x r.len number) (sym p.2)
      (subst (λ l. (x : Stored) → stored dataset p.0.key ≡ Some x → matches keywords x.pairs ≡ true → IsNewestUnless t xs p.0.key x l number) (sym p.3)
      (subst (λ m. (x : Stored) → stored dataset p.0.key ≡ Some x → matches keywords x.pairs ≡ true → IsNewestUnless t xs p.0.key x (length p.0.bytes) m) (sym numbered) newness))) rows in
      subst (λ ps. AreRows new (rows_of_batch dataset keywords t ps (rows_from dataset keywords t later))) (sym s.rest)
      (subst (λ k. AreRows new (put_matching keywords t k (stored dataset k) xs)) p.2 added)

-- ---- the batches of a table

pub batch_at : (ls : List Listing) (t : List (List Pair)) (n : ℕ) (l : Listing) → Tells ls t → slice_get ls n ≡ Some l → (b : List Pair) × (l.batch ≡ Some b) × (slice_get t n ≡ Some b)
batch_at [] t n l tells at = absurd (none n at)
  where
    none : (n : ℕ) → slice_get [] n ≡ Some l → ⊥
    none zero h = cc h
    none (suc n) h = cc h
batch_at (x ∷ ls) [] n l tells at = absurd (cc tells)
batch_at (x ∷ ls) (b ∷ t) zero l tells at =
    let e : x ≡ l = cc at in
    let h : x.batch ≡ Some b = cc tells in
    (b, subst (λ y. y.batch ≡ Some b) e h, refl)
batch_at (x ∷ ls) (b ∷ t) (suc n) l tells at =
    let rest : map (λ y. y.batch) ls ≡ map (λ c. Some c) t = cc tells in
    batch_at ls t n l rest at

pub tells_length : (ls : List Listing) (t : List (List Pair)) → Tells ls t → length t ≡ length ls
tells_length [] [] tells = refl
tells_length [] (b ∷ t) tells = absurd (cc tells)
tells_length (l ∷ ls) [] tells = absurd (cc tells)
tells_length (l ∷ ls) (b ∷ t) tells =
    let rest : map (λ y. y.batch) ls ≡ map (λ c. Some c) t = cc tells in
    ap suc (tells_length ls t rest)

-- Before the last batch there are no rows.
pub at_first : (dataset : List ℕ) (keywords : List Keyword) (ls : List Listing) (t : List (List Pair)) (n : ℕ) (es : List Kept) → Tells ls t → length ls ≤ n → AreRows es [] → AreRows es (rows_from dataset keywords t (drop n t))
at_first dataset keywords ls t n es tells long rows =
    let none = none_left t n (omega (arith, tells_length ls t tells, long)) in
    subst (λ bs. AreRows es (rows_from dataset keywords t bs)) (sym none) rows

-- one batch more
pub one_batch : (dataset : List ℕ) (keywords : List Keyword) (t : List (List Pair)) (n m : ℕ) (b : List Pair) (rs : List Record) (old new : List Kept) → m ≡ n + 1 → slice_get t n ≡ Some b → n ≤ length t → AreLengths rs b
    → ((front later : List (List Pair)) (c : List Pair) → AreLengths rs c → m ≡ 1 + length front → AreRows old (rows_from dataset keywords (front ++ c ∷ later) later) → AreRows new (rows_from dataset keywords (front ++ c ∷ later) (c ∷ later)))
    → AreRows old (rows_from dataset keywords t (drop m t)) → AreRows new (rows_from dataset keywords t (drop n t))
one_batch dataset keywords t n m b rs old new next at few lengths adds rows =
    let s = stands t n m b next at in
    let front = take n t in
    let later = drop m t in
    let numbered : m ≡ 1 + length front = omega (arith, next, length-take n t, few) in
    let before : AreRows old (rows_from dataset keywords (front ++ b ∷ later) later) = subst (λ x. AreRows old (rows_from dataset keywords x later)) s.split rows in
    let after = adds front later b lengths numbered before in
    subst (λ bs. AreRows new (rows_from dataset keywords t bs)) (sym s.rest) (subst (λ x. AreRows new (rows_from dataset keywords x (b ∷ later))) (sym s.split) after)

-- an element at a place is in the list
pub is_among : {A : Type 0} (xs : List A) (n : ℕ) (x : A) → slice_get xs n ≡ Some x → Contains xs x
is_among xs n x h = (n, slice_get_within xs n x h, get_or_from_slice_get xs n x x h)

-- damage of the index of a segment at a place
pub among_bad : {F : Type 0} (e : LensFault F) (ss : List Standing) (n : ℕ) (s : Standing) → slice_get ss n ≡ Some s → OnDamaged e (IsBadIndex s.files.entry s.files.index) → OnDamaged e (IsAmongBad ss)
among_bad (lenses.Fault f) ss n s at bad = tt
among_bad (lenses.Damaged d) ss n s at bad = (s, is_among ss n s at, bad)
among_bad lenses.NoMemory ss n s at bad = tt
