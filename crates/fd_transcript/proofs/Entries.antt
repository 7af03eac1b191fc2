-- Flushes that were sorted by the numbers of their entries.
use Rattle.std.proofs.Common.{◌≡◌, ◌∙◌, ◌≤◌, ◌<◌, ◌+◌, ℕ, zero, suc, Bool, true, false, true≢false, cond, List, [], ◌∷◌, ◌++◌, length, map, Less, Equal, Greater, refl, sym, ap, ap₂, arith, inl, inr}
use Rattle.std.specs.Prelude.{◌==◌, ◌&&◌, not, filter, flat_map, nat_le, nat_lt, slice_index_or, if◌then◌else◌}
use Rattle.std.specs.List.Sorted.{IsNonDecreasingBy, IsStableByKey, ties}
use Rattle.std.specs.Ordering.{is_lt, nat_cmp}
use Rattle.std.proofs.lemmas.Bool.{cases_Bool, eqb-false, eqb-true, le-leb, leb-false, leb-true, lt-ltb, ltb-false, ltb-true}
use Rattle.fd_transcript.specs.declared.history.Listed.{Listed}
use Rattle.fd_transcript.specs.History.{Flushed, at_entry, flushed_text, flushed_within, in_order, is_within, numbers_behind}
use Rattle.fd_transcript.specs.Seen.{entry_number, seen_flush}

-- ---- numbers between two others

within_is : (b last n : ℕ) → is_within b last n ≡ true → (b < n) × (n ≤ last)
within_is b last n e = go (nat_lt b n) (nat_le n last) refl refl e
  where
    go : (p q : Bool) → nat_lt b n ≡ p → nat_le n last ≡ q → (p && q) ≡ true → (b < n) × (n ≤ last)
    go true true x y both = (ltb-true b n x, leb-true n last y)
    go true false x y both = absurd cc
    go false q x y both = absurd cc

within_so : (b last n : ℕ) → b < n → n ≤ last → is_within b last n ≡ true
within_so b last n lt le = ap₂ (λ (p : Bool) (q : Bool). p && q) (lt-ltb b n lt) (le-leb n last le)

beyond : (b n : ℕ) → b < n → (n ≡ b + 1 → ⊥) → b + 1 < n
beyond b n lt other = elim (cases_Bool (nat_le n (b + 1))) as (λ _. b + 1 < n) [
  | inl small ↦ absurd (other (let le = leb-true n (b + 1) small in omega (arith, le, lt)))
  | inr large ↦ leb-false n (b + 1) large
]

-- ---- lists that rise

module _ {A : Type 0} (key : A → ℕ) where
  -- none of these has a number below this one
  abbrev pub Above : ℕ → List A → Type 0
  Above m [] = Unit {0}
  Above m (x ∷ xs) = (m ≤ key x) × Above m xs

  abbrev pub Rises : List A → Type 0
  Rises [] = Unit {0}
  Rises (x ∷ xs) = Above (key x) xs × Rises xs

  above_of : (m : ℕ) (xs : List A) → ((k : ℕ) (d : A) → k < length xs → m ≤ key (slice_index_or xs k d)) → Above m xs
  above_of m [] each = tt
  above_of m (x ∷ xs) each = (each zero x (omega arith), above_of m xs (λ k d lt. each (suc k) d (omega (arith, lt))))

  pub rises_of : (xs : List A) → IsNonDecreasingBy key xs → Rises xs
  rises_of [] up = tt
  rises_of (x ∷ xs) up = (above_of (key x) xs (λ k d lt. up zero (suc k) d (omega arith) (omega (arith, lt))), rises_of xs (λ i j d le lt. up (suc i) (suc j) d (omega (arith, le)) (omega (arith, lt))))

  abbrev of_entry : ℕ → List A → List A
  of_entry n xs = filter (λ x. key x == n) xs

  abbrev between : ℕ → ℕ → List A → List A
  between b last xs = filter (λ x. is_within b last (key x)) xs

  none_of : (m n : ℕ) (xs : List A) → n < m → Above m xs → of_entry n xs ≡ []
  none_of m n [] lt above = refl
  none_of m n (x ∷ xs) lt (le, above) = go (key x == n) refl (none_of m n xs lt above)
    where
      go : (p : Bool) → (key x == n) ≡ p → of_entry n xs ≡ [] → cond p (x ∷ of_entry n xs) (of_entry n xs) ≡ []
      go true e rest = absurd (let is = eqb-true (key x) n e in omega (arith, is, lt, le))
      go false e rest = rest

  none_between : (b last : ℕ) (xs : List A) → last ≤ b → between b last xs ≡ []
  none_between b last [] le = refl
  none_between b last (x ∷ xs) le = go (is_within b last (key x)) refl (none_between b last xs le)
    where
      go : (p : Bool) → is_within b last (key x) ≡ p → between b last xs ≡ [] → cond p (x ∷ between b last xs) (between b last xs) ≡ []
      go true e rest = absurd (let z = within_is b last (key x) e in omega (arith, z.0, z.1, le))
      go false e rest = rest

  -- those of the next number stand before those of the numbers behind it
  next_first : (b n : ℕ) (xs : List A) → Rises xs → of_entry (b + 1) xs ++ between (b + 1) (b + 1 + n) xs ≡ between b (b + suc n) xs
  next_first b n [] up = refl
  next_first b n (x ∷ xs) (above, up) =
      go (key x == (b + 1)) (is_within (b + 1) (b + 1 + n) (key x)) (is_within b (b + suc n) (key x)) refl refl refl (next_first b n xs up)
    where
      go : (p q r : Bool) → (key x == (b + 1)) ≡ p → is_within (b + 1) (b + 1 + n) (key x) ≡ q → is_within b (b + suc n) (key x) ≡ r
          → of_entry (b + 1) xs ++ between (b + 1) (b + 1 + n) xs ≡ between b (b + suc n) xs
          → cond p (x ∷ of_entry (b + 1) xs) (of_entry (b + 1) xs) ++ cond q (x ∷ between (b + 1) (b + 1 + n) xs) (between (b + 1) (b + 1 + n) xs) ≡ cond r (x ∷ between b (b + suc n) xs) (between b (b + suc n) xs)
      go true true r e f h rest = absurd (let is = eqb-true (key x) (b + 1) e in let z = within_is (b + 1) (b + 1 + n) (key x) f in omega (arith, is, z.0))
      go true false true e f h rest = ap (λ (ys : List A). x ∷ ys) rest
      go true false false e f h rest = absurd (let is = eqb-true (key x) (b + 1) e in let z = within_so b (b + suc n) (key x) (omega (arith, is)) (omega (arith, is)) in true≢false (sym z ∙ h))
      go false true true e f h rest =
          let z = within_is (b + 1) (b + 1 + n) (key x) f in
          let none = none_of (key x) (b + 1) xs z.0 above in
          ap (λ (ys : List A). ys ++ x ∷ between (b + 1) (b + 1 + n) xs) none
          ∙ ap (λ (ys : List A). x ∷ ys) (ap (λ (ys : List A). ys ++ between (b + 1) (b + 1 + n) xs) (sym none) ∙ rest)
      go false true false e f h rest = absurd (let z = within_is (b + 1) (b + 1 + n) (key x) f in let w = within_so b (b + suc n) (key x) (omega (arith, z.0)) (omega (arith, z.1)) in true≢false (sym w ∙ h))
      go false false true e f h rest =
          absurd (let z = within_is b (b + suc n) (key x) h in let w = within_so (b + 1) (b + 1 + n) (key x) (beyond b (key x) z.0 (eqb-false (key x) (b + 1) e)) (omega (arith, z.1)) in true≢false (sym w ∙ f))
      go false false false e f h rest = rest

  -- number by number they are what lies between
  in_turn : (b n : ℕ) (xs : List A) → Rises xs → flat_map (λ m. of_entry m xs) (numbers_behind b n) ≡ between b (b + n) xs
  in_turn b zero xs up = sym (none_between b (b + zero) xs (omega arith))
  in_turn b (suc n) xs up = ap (λ (ys : List A). of_entry (b + 1) xs ++ ys) (in_turn (b + 1) n xs up) ∙ next_first b n xs up

module _ {A B : Type 0} (view : A → B) (key : B → ℕ) where
  above_map : (m : ℕ) (xs : List A) → Above (λ x. key (view x)) m xs → Above key m (map view xs)
  above_map m [] above = tt
  above_map m (x ∷ xs) (le, above) = (le, above_map m xs above)

  pub rises_map : (xs : List A) → Rises (λ x. key (view x)) xs → Rises key (map view xs)
  rises_map [] up = tt
  rises_map (x ∷ xs) (above, up) = (above_map (key (view x)) xs above, rises_map xs up)

-- ---- a stable sort

tied : (a b : ℕ) → (not (is_lt (nat_cmp a b)) && not (is_lt (nat_cmp b a))) ≡ (b == a)
tied a b = go (nat_lt a b) (a == b) (nat_lt b a) (b == a) refl refl refl refl
  where
    go : (p q r s : Bool) → nat_lt a b ≡ p → (a == b) ≡ q → nat_lt b a ≡ r → (b == a) ≡ s
        → (not (is_lt (cond p Less (cond q Equal Greater))) && not (is_lt (cond r Less (cond s Equal Greater)))) ≡ s
    go true q r true e f h k = absurd (let x = ltb-true a b e in let y = eqb-true b a k in omega (arith, x, y))
    go true q r false e f h k = refl
    go false true true true e f h k = absurd (let x = ltb-true b a h in let y = eqb-true b a k in omega (arith, x, y))
    go false true true false e f h k = refl
    go false true false true e f h k = refl
    go false true false false e f h k = absurd (eqb-false b a k (sym (eqb-true a b f)))
    go false false true true e f h k = absurd (let x = ltb-true b a h in let y = eqb-true b a k in omega (arith, x, y))
    go false false true false e f h k = refl
    go false false false true e f h k = refl
    go false false false false e f h k = absurd (eqb-false b a k (let x = ltb-false a b e in let y = ltb-false b a h in omega (arith, x, y)))

abbrev lower : Listed → Listed → Bool
lower x y = is_lt (nat_cmp (entry_number x) (entry_number y))

at_view : (d : Listed) (xs : List Listed) → at_entry (map seen_flush xs) (entry_number d) ≡ map seen_flush (filter (ties lower d) xs)
at_view d [] = refl
at_view d (x ∷ xs) = go (entry_number x == entry_number d) (ties lower d x) (tied (entry_number d) (entry_number x)) (at_view d xs)
  where
    go : (p q : Bool) → q ≡ p → at_entry (map seen_flush xs) (entry_number d) ≡ map seen_flush (filter (ties lower d) xs)
        → cond p (seen_flush x ∷ at_entry (map seen_flush xs) (entry_number d)) (at_entry (map seen_flush xs) (entry_number d)) ≡ map seen_flush (cond q (x ∷ filter (ties lower d) xs) (filter (ties lower d) xs))
    go true true e rest = ap (λ (fs : List Flushed). seen_flush x ∷ fs) rest
    go true false e rest = absurd cc
    go false true e rest = absurd cc
    go false false e rest = rest

abbrev with_entry : Listed → ℕ → Listed
with_entry l n = record { lane = l.lane; number = l.number; entry = n }

same_by : (d : Listed) (old new : List Listed) → IsStableByKey entry_number nat_cmp old new → at_entry (map seen_flush new) (entry_number d) ≡ at_entry (map seen_flush old) (entry_number d)
same_by d old new stable = at_view d new ∙ ap (map seen_flush) (stable d) ∙ sym (at_view d old)

-- those of one entry are the same in the same order
pub same_at : (old new : List Listed) → IsStableByKey entry_number nat_cmp old new → (n : ℕ) → at_entry (map seen_flush new) n ≡ at_entry (map seen_flush old) n
same_at [] [] stable n = refl
same_at (x ∷ xs) new stable n = same_by (with_entry x n) (x ∷ xs) new stable
same_at [] (y ∷ ys) stable n = same_by (with_entry y n) [] (y ∷ ys) stable

-- ---- the text of what lies between

text_one : (p : Bool) (f : Flushed) (fs : List Flushed) (t : List ℕ) → t ≡ flat_map flushed_text fs → (if p then flushed_text f else []) ++ t ≡ flat_map flushed_text (cond p (f ∷ fs) fs)
text_one true f fs t is = ap (λ (u : List ℕ). flushed_text f ++ u) is
text_one false f fs t is = is

text_between : (b last : ℕ) (fs : List Flushed) → flat_map (flushed_within b last) fs ≡ flat_map flushed_text (between (λ (f : Flushed). f.entry) b last fs)
text_between b last [] = refl
text_between b last (f ∷ fs) = text_one (is_within b last f.entry) f (between (λ (f : Flushed). f.entry) b last fs) (flat_map (flushed_within b last) fs) (text_between b last fs)

same_all : (old new : List Flushed) (ns : List ℕ) → ((n : ℕ) → at_entry new n ≡ at_entry old n) → flat_map (at_entry new) ns ≡ flat_map (at_entry old) ns
same_all old new [] same = refl
same_all old new (n ∷ ns) same = ap₂ (λ (xs : List Flushed) (ys : List Flushed). xs ++ ys) (same n) (same_all old new ns same)

-- The flushes, sorted by their entries: those that lie between are the history.
pub history_is : (old new : List Flushed) (b last : ℕ) → Rises (λ (f : Flushed). f.entry) new → ((n : ℕ) → at_entry new n ≡ at_entry old n) → last ≡ b + length old
    → flat_map (flushed_within b last) new ≡ flat_map flushed_text (in_order b old)
history_is old new b last up same is =
    text_between b last new
    ∙ ap (λ (k : ℕ). flat_map flushed_text (between (λ (f : Flushed). f.entry) b k new)) is
    ∙ ap (flat_map flushed_text) (sym (in_turn (λ (f : Flushed). f.entry) b (length old) new up) ∙ same_all old new (numbers_behind b (length old)) same)
