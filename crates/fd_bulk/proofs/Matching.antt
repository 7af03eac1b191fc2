-- Datasets with their boards and passes: one of them changes, or one more comes.
use Rattle.std.proofs.Common.{◌≡◌, ℕ, zero, suc, ◌+◌, ◌<◌, List, [], ◌∷◌, ◌++◌, length, slice_get, slice_set, Some, refl, sym, ap, subst, arith}
use Rattle.fd_bulk.specs.Crewing.{Matched}

module _ {A B C : Type 0} where
  pub matched_map : (P Q : ℕ → A → B → C → Type 0) (k : ℕ) (xs : List A) (ys : List B) (zs : List C) → ((n : ℕ) (a : A) (b : B) (c : C) → P n a b c → Q n a b c) → Matched P k xs ys zs → Matched Q k xs ys zs
  matched_map P Q k [] [] [] f all = tt
  matched_map P Q k [] [] (z ∷ zs) f all = absurd all
  matched_map P Q k [] (y ∷ ys) zs f all = absurd all
  matched_map P Q k (x ∷ xs) [] zs f all = absurd all
  matched_map P Q k (x ∷ xs) (y ∷ ys) [] f all = absurd all
  matched_map P Q k (x ∷ xs) (y ∷ ys) (z ∷ zs) f all = (f k x y z all.0, matched_map P Q (suc k) xs ys zs f all.1)

  pub matched_long : (P : ℕ → A → B → C → Type 0) (k : ℕ) (xs : List A) (ys : List B) (zs : List C) → Matched P k xs ys zs → (length xs ≡ length ys) × (length zs ≡ length ys)
  matched_long P k [] [] [] all = (refl, refl)
  matched_long P k [] [] (z ∷ zs) all = absurd all
  matched_long P k [] (y ∷ ys) zs all = absurd all
  matched_long P k (x ∷ xs) [] zs all = absurd all
  matched_long P k (x ∷ xs) (y ∷ ys) [] all = absurd all
  matched_long P k (x ∷ xs) (y ∷ ys) (z ∷ zs) all = let r = matched_long P (suc k) xs ys zs all.1 in (ap suc r.0, ap suc r.1)

  -- one dataset more
  pub matched_push : (P : ℕ → A → B → C → Type 0) (k i : ℕ) (xs : List A) (ys : List B) (zs : List C) (x : A) (y : B) (z : C) → i ≡ k + length ys → P i x y z → Matched P k xs ys zs → Matched P k (xs ++ x ∷ []) (ys ++ y ∷ []) (zs ++ z ∷ [])
  matched_push P k i [] [] [] x y z is one all = (subst (λ (j : ℕ). P j x y z) (omega (arith, is)) one, tt)
  matched_push P k i [] [] (c ∷ cs) x y z is one all = absurd all
  matched_push P k i [] (b ∷ bs) cs x y z is one all = absurd all
  matched_push P k i (a ∷ es) [] cs x y z is one all = absurd all
  matched_push P k i (a ∷ es) (b ∷ bs) [] x y z is one all = absurd all
  matched_push P k i (a ∷ es) (b ∷ bs) (c ∷ cs) x y z is one all = (all.0, matched_push P (suc k) i es bs cs x y z (omega (arith, is)) one all.1)

  -- that with a number
  pub record MatchedAt (P : ℕ → A → B → C → Type 0) (i n : ℕ) (xs : List A) (zs : List C) (y : B) : Type 0 where
    pub first : A
    pub third : C
    pub first_at : slice_get xs n ≡ Some first
    pub third_at : slice_get zs n ≡ Some third
    pub holds : P i first y third

  pub matched_at : (P : ℕ → A → B → C → Type 0) (k n i : ℕ) (xs : List A) (ys : List B) (zs : List C) (y : B) → i ≡ k + n → slice_get ys n ≡ Some y → Matched P k xs ys zs → MatchedAt P i n xs zs y
  matched_at P k n i [] [] [] y is at all = absurd (cc at)
  matched_at P k n i [] [] (c ∷ cs) y is at all = absurd all
  matched_at P k n i [] (b ∷ bs) cs y is at all = absurd all
  matched_at P k n i (a ∷ es) [] cs y is at all = absurd all
  matched_at P k n i (a ∷ es) (b ∷ bs) [] y is at all = absurd all
  matched_at P k zero i (a ∷ es) (b ∷ bs) (c ∷ cs) y is at all =
      let one : b ≡ y = cc at in
      let here : k ≡ i = omega (arith, is) in
      record { first = a; third = c; first_at = refl; third_at = refl; holds = subst (λ (v : B). P i a v c) one (subst (λ (j : ℕ). P j a b c) here all.0) }
  matched_at P k (suc n) i (a ∷ es) (b ∷ bs) (c ∷ cs) y is at all =
      let r = matched_at P (suc k) n i es bs cs y (omega (arith, is)) at all.1 in record { first = r.first; third = r.third; first_at = r.first_at; third_at = r.third_at; holds = r.holds }

  -- one dataset and its pass change, and what holds of the others still does
  pub matched_set : (P Q : ℕ → A → B → C → Type 0) (k n i : ℕ) (xs : List A) (ys : List B) (zs : List C) (y v : B) (z w : C) → i ≡ k + n → slice_get ys n ≡ Some y → slice_get zs n ≡ Some z → ((j : ℕ) (a : A) (b : B) (c : C) → (j ≡ i → ⊥) → P j a b c → Q j a b c)
      → ((a : A) → slice_get xs n ≡ Some a → P i a y z → Q i a v w) → Matched P k xs ys zs → Matched Q k xs (slice_set ys n v) (slice_set zs n w)
  matched_set P Q k n i [] [] [] y v z w is at there others one all = absurd (cc at)
  matched_set P Q k n i [] [] (c ∷ cs) y v z w is at there others one all = absurd all
  matched_set P Q k n i [] (b ∷ bs) cs y v z w is at there others one all = absurd all
  matched_set P Q k n i (a ∷ es) [] cs y v z w is at there others one all = absurd all
  matched_set P Q k n i (a ∷ es) (b ∷ bs) [] y v z w is at there others one all = absurd all
  matched_set P Q k zero i (a ∷ es) (b ∷ bs) (c ∷ cs) y v z w is at there others one all =
      let s : b ≡ y = cc at in
      let t : c ≡ z = cc there in
      let here : k ≡ i = omega (arith, is) in (
        subst (λ (j : ℕ). Q j a v w) (sym here) (one a refl (subst (λ (u : C). P i a y u) t (subst (λ (u : B). P i a u c) s (subst (λ (j : ℕ). P j a b c) here all.0)))),
        past (suc k) es bs cs (omega (arith, here)) all.1,
      )
    where
      past : (l : ℕ) (es : List A) (bs : List B) (cs : List C) → i < l → Matched P l es bs cs → Matched Q l es bs cs
      past l [] [] [] later m = tt
      past l [] [] (c ∷ cs) later m = absurd m
      past l [] (b ∷ bs) cs later m = absurd m
      past l (a ∷ es) [] cs later m = absurd m
      past l (a ∷ es) (b ∷ bs) [] later m = absurd m
      past l (a ∷ es) (b ∷ bs) (c ∷ cs) later m = (others l a b c (λ e. omega (arith, later, e)) m.0, past (suc l) es bs cs (omega (arith, later)) m.1)
  matched_set P Q k (suc n) i (a ∷ es) (b ∷ bs) (c ∷ cs) y v z w is at there others one all =
      (others k a b c (λ e. omega (arith, is, e)) all.0, matched_set P Q (suc k) n i es bs cs y v z w (omega (arith, is)) at there others one all.1)
