-- The newest bytes of a key whose row is new.
use Rattle.std.proofs.Common.{◌≡◌, ◌∙◌, ℕ, ◌+◌, Bool, true, false, true≢false, ◌&&◌, ◌||◌, cond, List, [], ◌∷◌, ◌++◌, length, Option, Some, None, Ordering, Less, Equal, Greater, refl, sym, ap, subst, bytes_eq, arith}
use Rattle.std.specs.List.{list_any}
use Rattle.std.specs.Ordering.{nat_cmp, ordering_then, is_lt, is_gt}
use Rattle.std.specs.Cmp.Lexicographic.{slice_cmp}
use Rattle.std.proofs.lemmas.Map.Lookups.{exact_bytes}
use Rattle.std.proofs.lemmas.Slice.Eq.{bytes_eq-Decides}
use Rattle.fd_entries.specs.declared.batch.Pair.{Pair}
use Rattle.fd_entries.specs.Batches.{same_bytes, or_older, of_batch, newest, has_key}
use Rattle.fd_segment.proofs.Keys.{same_as_eq}
use Rattle.fd_request.specs.Expansion.{Keyword}
use Rattle.fd_inventory.specs.Shown.{IsNewestUnless, has_row}
use Rattle.fd_outcome.specs.Rows.{Row, Stored, matches, newest_number, put, put_by, put_matching, row_of, row_order, rows_from, rows_of_batch, stored}

bytes_same : (a : List ℕ) → bytes_eq a a ≡ true
bytes_same a = (bytes_eq-Decides a a).1 refl

exact : (a b : List ℕ) → same_bytes a b ≡ true → a ≡ b
exact a b h = sym ((bytes_eq-Decides b a).0 (sym (same_as_eq a b) ∙ h))

same_self : (a : List ℕ) → same_bytes a a ≡ true
same_self a = same_as_eq a a ∙ bytes_same a

or_right : (a b : Bool) → b ≡ true → (a || b) ≡ true
or_right true b h = refl
or_right false b h = h

-- ---- rows stay, and a row that is put is there

tied : (a b : Row) → row_order a b ≡ Equal → (a.key.index ≡ b.key.index) × (a.key.datum ≡ b.key.datum)
tied a b is = go (slice_cmp nat_cmp a.key.index b.key.index) refl is
  where
    go : (o : Ordering) → slice_cmp nat_cmp a.key.index b.key.index ≡ o → ordering_then o (slice_cmp nat_cmp a.key.datum b.key.datum) ≡ Equal → (a.key.index ≡ b.key.index) × (a.key.datum ≡ b.key.datum)
    go Less first h = absurd (true≢false (ap is_lt h))
    go Equal first h = (exact_bytes a.key.index b.key.index first, exact_bytes a.key.datum b.key.datum h)
    go Greater first h = absurd (true≢false (ap is_gt h))

module _ (i d : List ℕ) where
  abbrev at : Row → Bool
  at r = bytes_eq i r.key.index && bytes_eq d r.key.datum

  has_put : (r : Row) (rs : List Row) → has_row rs i d ≡ true → has_row (put row_order r rs) i d ≡ true
  has_put r [] h = absurd (true≢false (sym h))
  has_put r (y ∷ ys) h = by (row_order r y) (has_put r ys)
    where
      later : (t : Bool) → (t || has_row ys i d) ≡ true → (has_row ys i d ≡ true → has_row (put row_order r ys) i d ≡ true) → (t || has_row (put row_order r ys) i d) ≡ true
      later true k more = refl
      later false k more = more k

      by : (o : Ordering) → (has_row ys i d ≡ true → has_row (put row_order r ys) i d ≡ true) → has_row (put_by o r y ys (put row_order r ys)) i d ≡ true
      by Less more = or_right (at r) (has_row (y ∷ ys) i d) h
      by Equal more = h
      by Greater more = later (at y) h more

  put_has : (r : Row) (rs : List Row) → at r ≡ true → has_row (put row_order r rs) i d ≡ true
  put_has r [] is = ap (λ t. t || false) is
  put_has r (y ∷ ys) is = by (row_order r y) refl (put_has r ys is)
    where
      by : (o : Ordering) → row_order r y ≡ o → has_row (put row_order r ys) i d ≡ true → has_row (put_by o r y ys (put row_order r ys)) i d ≡ true
      by Less e more = ap (λ t. t || has_row (y ∷ ys) i d) is
      by Equal e more =
          let same = tied r y e in
          ap (λ t. t || has_row ys i d) (sym (ap (λ x. bytes_eq i x && bytes_eq d r.key.datum) same.0 ∙ ap (λ x. bytes_eq i y.key.index && bytes_eq d x) same.1) ∙ is)
      by Greater e more = or_right (at y) (has_row (put row_order r ys) i d) more

  module _ (dataset : List ℕ) (keywords : List Keyword) (t : List (List Pair)) where
    keeps_matching : (key : List ℕ) (o : Option Stored) (rs : List Row) → has_row rs i d ≡ true → has_row (put_matching keywords t key o rs) i d ≡ true
    keeps_matching key None rs h = h
    keeps_matching key (Some s) rs h = by (matches keywords s.pairs)
      where
        by : (b : Bool) → has_row (cond b (put row_order (row_of t key s) rs) rs) i d ≡ true
        by true = has_put (row_of t key s) rs h
        by false = h

    keeps_batch : (ps : List Pair) (rs : List Row) → has_row rs i d ≡ true → has_row (rows_of_batch dataset keywords t ps rs) i d ≡ true
    keeps_batch [] rs h = h
    keeps_batch (p ∷ ps) rs h = keeps_matching p.key (stored dataset p.key) (rows_of_batch dataset keywords t ps rs) (keeps_batch ps rs h)

-- ---- a key that some batch has, has a row

module _ (dataset : List ℕ) (keywords : List Keyword) (t : List (List Pair)) (key : List ℕ) (s : Stored) (is : stored dataset key ≡ Some s) (asked : matches keywords s.pairs ≡ true) where
  put_there : (k : List ℕ) (rs : List Row) → k ≡ key → has_row (put_matching keywords t k (stored dataset k) rs) s.index s.datum ≡ true
  put_there k rs same =
      subst (λ x. has_row (put_matching keywords t x (stored dataset x) rs) s.index s.datum ≡ true) (sym same)
      (subst (λ o. has_row (put_matching keywords t key o rs) s.index s.datum ≡ true) (sym is)
      (subst (λ b. has_row (cond b (put row_order (row_of t key s) rs) rs) s.index s.datum ≡ true) (sym asked)
      (put_has s.index s.datum (row_of t key s) rs (ap (λ x. x && bytes_eq s.datum s.datum) (bytes_same s.index) ∙ bytes_same s.datum))))

  batch_has : (ps : List Pair) (rs : List Row) → has_key ps key ≡ true → has_row (rows_of_batch dataset keywords t ps rs) s.index s.datum ≡ true
  batch_has [] rs h = absurd (true≢false (sym h))
  batch_has (p ∷ ps) rs h = by (same_bytes p.key key) refl h (batch_has ps rs)
    where
      others : List Row
      others = rows_of_batch dataset keywords t ps rs

      by : (b : Bool) → same_bytes p.key key ≡ b → (b || has_key ps key) ≡ true → (has_key ps key ≡ true → has_row others s.index s.datum ≡ true)
          → has_row (put_matching keywords t p.key (stored dataset p.key) others) s.index s.datum ≡ true
      by true same k more = put_there p.key others (exact p.key key same)
      by false same k more = keeps_matching s.index s.datum dataset keywords t p.key (stored dataset p.key) others (more k)

  abbrev in_table : List (List Pair) → Bool
  in_table bs = list_any (λ b. has_key b key) bs

  table_has : (bs : List (List Pair)) → in_table bs ≡ true → has_row (rows_from dataset keywords t bs) s.index s.datum ≡ true
  table_has [] h = absurd (true≢false (sym h))
  table_has (b ∷ bs) h = by (has_key b key) refl h (table_has bs)
    where
      by : (x : Bool) → has_key b key ≡ x → (x || in_table bs) ≡ true → (in_table bs ≡ true → has_row (rows_from dataset keywords t bs) s.index s.datum ≡ true) → has_row (rows_of_batch dataset keywords t b (rows_from dataset keywords t bs)) s.index s.datum ≡ true
      by true has k more = batch_has b (rows_from dataset keywords t bs) has
      by false has k more = keeps_batch s.index s.datum dataset keywords t b (rows_from dataset keywords t bs) (more k)

  -- ---- so a key without a row is in no batch

  lacks : (x : Bool) (rows : Bool) → (x ≡ true → rows ≡ true) → rows ≡ false → x ≡ false
  lacks false rows h none = refl
  lacks true rows h none = absurd (true≢false (sym (h refl) ∙ none))

  batch_lacks : (ps : List Pair) (rs : List Row) → has_row (rows_of_batch dataset keywords t ps rs) s.index s.datum ≡ false → has_key ps key ≡ false
  batch_lacks ps rs none = lacks (has_key ps key) (has_row (rows_of_batch dataset keywords t ps rs) s.index s.datum) (batch_has ps rs) none

  below_lacks : (ps : List Pair) (bs : List (List Pair)) → has_row (rows_of_batch dataset keywords t ps (rows_from dataset keywords t bs)) s.index s.datum ≡ false → in_table bs ≡ false
  below_lacks ps bs none = lacks (in_table bs) (has_row (rows_of_batch dataset keywords t ps (rows_from dataset keywords t bs)) s.index s.datum)
      (λ h. keeps_batch s.index s.datum dataset keywords t ps (rows_from dataset keywords t bs) (table_has bs h)) none

-- ---- what a key has that is in no later batch

no_batch : (ps : List Pair) (key : List ℕ) → has_key ps key ≡ false → of_batch ps key ≡ None
no_batch [] key h = refl
no_batch (p ∷ ps) key h = by (same_bytes p.key key) h (no_batch ps key)
  where
    by : (b : Bool) → (b || has_key ps key) ≡ false → (has_key ps key ≡ false → of_batch ps key ≡ None) → or_older (of_batch ps key) (cond b (Some p.bytes) None) ≡ None
    by true k more = absurd (true≢false k)
    by false k more = ap (λ o. or_older o None) (more k)

no_table : (bs : List (List Pair)) (key : List ℕ) → list_any (λ b. has_key b key) bs ≡ false → newest bs key ≡ None
no_table [] key h = refl
no_table (b ∷ bs) key h = by (has_key b key) refl h (no_table bs key)
  where
    by : (x : Bool) → has_key b key ≡ x → (x || list_any (λ c. has_key c key) bs) ≡ false → (list_any (λ c. has_key c key) bs ≡ false → newest bs key ≡ None) → or_older (newest bs key) (of_batch b key) ≡ None
    by true has k more = absurd (true≢false k)
    by false has k more = ap (λ o. or_older o (of_batch b key)) (more k) ∙ no_batch b key has

no_number : (n : ℕ) (bs : List (List Pair)) (key : List ℕ) → list_any (λ b. has_key b key) bs ≡ false → newest_number n bs key ≡ None
no_number n [] key h = refl
no_number n (b ∷ bs) key h = by (has_key b key) h (no_number (n + 1) bs key)
  where
    by : (x : Bool) → (x || list_any (λ c. has_key c key) bs) ≡ false → (list_any (λ c. has_key c key) bs ≡ false → newest_number (n + 1) bs key ≡ None) → or_older (newest_number (n + 1) bs key) (cond x (Some n) None) ≡ None
    by true k more = absurd (true≢false k)
    by false k more = ap (λ o. or_older o None) (more k)

found_in : (qs : List Pair) (p : Pair) (ps : List Pair) → has_key ps p.key ≡ false → of_batch (qs ++ p ∷ ps) p.key ≡ Some p.bytes
found_in [] p ps none = ap (λ o. or_older o (cond (same_bytes p.key p.key) (Some p.bytes) None)) (no_batch ps p.key none) ∙ ap (λ b. cond b (Some p.bytes) None) (same_self p.key)
found_in (q ∷ qs) p ps none = ap (λ o. or_older o (cond (same_bytes q.key p.key) (Some q.bytes) None)) (found_in qs p ps none)

key_in : (qs : List Pair) (p : Pair) (ps : List Pair) → has_key (qs ++ p ∷ ps) p.key ≡ true
key_in [] p ps = ap (λ b. b || has_key ps p.key) (same_self p.key)
key_in (q ∷ qs) p ps = or_right (same_bytes q.key p.key) (has_key (qs ++ p ∷ ps) p.key) (key_in qs p ps)

newest_in : (front : List (List Pair)) (b : List Pair) (later : List (List Pair)) (key bytes : List ℕ) → newest later key ≡ None → of_batch b key ≡ Some bytes → newest (front ++ b ∷ later) key ≡ Some bytes
newest_in [] b later key bytes none has = ap (λ o. or_older o (of_batch b key)) none ∙ has
newest_in (f ∷ front) b later key bytes none has = ap (λ o. or_older o (of_batch f key)) (newest_in front b later key bytes none has)

number_in : (n : ℕ) (front : List (List Pair)) (b : List Pair) (later : List (List Pair)) (key : List ℕ) → newest_number (n + length front + 1) later key ≡ None → has_key b key ≡ true
    → newest_number n (front ++ b ∷ later) key ≡ Some (n + length front)
number_in n [] b later key none has =
    let e : n + 1 ≡ n + 0 + 1 = omega arith in
    let m : n ≡ n + 0 = omega arith in
    ap (λ k. or_older (newest_number k later key) (cond (has_key b key) (Some n) None)) e ∙ ap (λ o. or_older o (cond (has_key b key) (Some n) None)) none ∙ ap (λ x. cond x (Some n) None) has ∙ ap Some m
number_in n (f ∷ front) b later key none has =
    let e : n + length (f ∷ front) + 1 ≡ n + 1 + length front + 1 = omega arith in
    let m : n + 1 + length front ≡ n + length (f ∷ front) = omega arith in
    ap (λ o. or_older o (cond (has_key f key) (Some n) None)) (number_in (n + 1) front b later key (subst (λ k. newest_number k later key ≡ None) e none) has) ∙ ap Some m

-- A key of a batch whose row isn't there: no later batch has it, so its bytes are the newest.
pub is_newest : (dataset : List ℕ) (keywords : List Keyword) (front : List (List Pair)) (qs : List Pair) (p : Pair) (ps : List Pair) (later : List (List Pair)) (s : Stored)
    → let t = front ++ (qs ++ p ∷ ps) ∷ later in stored dataset p.key ≡ Some s → matches keywords s.pairs ≡ true
    → IsNewestUnless t (rows_of_batch dataset keywords t ps (rows_from dataset keywords t later)) p.key s (length p.bytes) (1 + length front)
is_newest dataset keywords front qs p ps later s is asked none =
    let t = front ++ (qs ++ p ∷ ps) ∷ later in
    let here = batch_lacks dataset keywords t p.key s is asked ps (rows_from dataset keywords t later) none in
    let below = below_lacks dataset keywords t p.key s is asked ps later none in (
      p.bytes,
      newest_in front (qs ++ p ∷ ps) later p.key p.bytes (no_table later p.key below) (found_in qs p ps here),
      refl,
      number_in 1 front (qs ++ p ∷ ps) later p.key (no_number (1 + length front + 1) later p.key below) (key_in qs p ps),
    )
