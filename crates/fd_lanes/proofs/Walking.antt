-- Walks of a lane, one step after another.
use Rattle.std.proofs.Common.{◌≡◌, ◌<◌, ◌≤◌, ◌+◌, ◌-◌, ℕ, zero, suc, List, [], ◌∷◌, ◌++◌, map, length, sym, refl, ap, ◌∙◌, subst, arith, length-append, append_assoc, Option, Some, None, ◌⊎◌, inl, inr}
use mathlib.Core.List.{append-nil}
use Rattle.fd_entries.specs.declared.batch.Pair.{Pair}
use Rattle.fd_numbers.specs.Numbers.{IsIn, Differ}
use Rattle.fd_lanes.specs.Acts.{Act, Put, Flush, Get}
use Rattle.fd_lanes.specs.declared.end.End.{End}
use Rattle.fd_lanes.specs.declared.end.End.TheVariants.{PutOk, PutUnlisted, Fault, Listed, Nothing, TableFull, NoMemory, Damaged, Got}
use Rattle.fd_lanes.specs.Walks.{Stand, after, receipt, receipts, walked, EndsWell, Walks}

module _ {A : Type 0} where
  pub in_left : (xs ys : List A) (x : A) → IsIn xs x → IsIn (xs ++ ys) x
  in_left [] ys x i = absurd i
  in_left (z ∷ xs) ys x (inl e) = inl e
  in_left (z ∷ xs) ys x (inr i) = inr (in_left xs ys x i)

  pub in_right : (xs ys : List A) (x : A) → IsIn ys x → IsIn (xs ++ ys) x
  in_right [] ys x i = i
  in_right (z ∷ xs) ys x i = inr (in_right xs ys x i)

  pub in_either : (xs ys : List A) (x : A) → IsIn (xs ++ ys) x → IsIn xs x ⊎ IsIn ys x
  in_either [] ys x i = inr i
  in_either (z ∷ xs) ys x (inl e) = inl (inl e)
  in_either (z ∷ xs) ys x (inr i) = go (in_either xs ys x i)
    where
      go : IsIn xs x ⊎ IsIn ys x → IsIn (z ∷ xs) x ⊎ IsIn ys x
      go (inl j) = inl (inr j)
      go (inr j) = inr j

  pub differ_both : (xs ys : List A) → Differ xs → Differ ys → ((x : A) → IsIn xs x → IsIn ys x → ⊥) → Differ (xs ++ ys)
  differ_both [] ys d e apart = e
  differ_both (x ∷ xs) ys d e apart = (λ i. go (in_either xs ys x i), differ_both xs ys d.1 e (λ z i j. apart z (inr i) j))
    where
      go : IsIn xs x ⊎ IsIn ys x → ⊥
      go (inl j) = d.0 j
      go (inr j) = apart x (inl refl) j

module _ (F : Type 0) (P : List Pair → ℕ → Type 0) (Q : Type 0) (R : ℕ → List (List ℕ) → List (Option (List ℕ)) → Type 0) (D : Type 0) where
  pub walks_snoc : (s : Stand) (steps : List Act) (es : List (End F)) (step : Act) (e : End F) → Walks P Q R D s steps es → EndsWell P Q R D (walked s steps es) step e → Walks P Q R D s (steps ++ step ∷ []) (es ++ e ∷ [])
  walks_snoc s [] [] step e w h = (h, tt)
  walks_snoc s [] (x ∷ es) step e w h = absurd w
  walks_snoc s (t ∷ steps) [] step e w h = absurd w
  walks_snoc s (t ∷ steps) (x ∷ es) step e w h = (w.0, walks_snoc (after s t x) steps es step e w.1 h)

  pub walked_snoc : (s : Stand) (steps : List Act) (es : List (End F)) (step : Act) (e : End F) → Walks P Q R D s steps es → walked s (steps ++ step ∷ []) (es ++ e ∷ []) ≡ after (walked s steps es) step e
  walked_snoc s [] [] step e w = refl
  walked_snoc s [] (x ∷ es) step e w = absurd w
  walked_snoc s (t ∷ steps) [] step e w = absurd w
  walked_snoc s (t ∷ steps) (x ∷ es) step e w = walked_snoc (after s t x) steps es step e w.1

  pub receipts_snoc : (s : Stand) (steps : List Act) (es : List (End F)) (step : Act) (e : End F) → Walks P Q R D s steps es → length (receipts s (steps ++ step ∷ []) (es ++ e ∷ [])) ≡ length (receipts s steps es) + length (receipt (walked s steps es) e)
  receipts_snoc s [] [] step e w = let one = length-append (receipt s e) [] in omega arith
  receipts_snoc s [] (x ∷ es) step e w = absurd w
  receipts_snoc s (t ∷ steps) [] step e w = absurd w
  receipts_snoc s (t ∷ steps) (x ∷ es) step e w =
      let rest = receipts_snoc (after s t x) steps es step e w.1 in
      let one = length-append (receipt s x) (receipts (after s t x) (steps ++ step ∷ []) (es ++ e ∷ [])) in
      let two = length-append (receipt s x) (receipts (after s t x) steps es) in
      omega arith

  pub receipts_are : (s : Stand) (steps : List Act) (es : List (End F)) (step : Act) (e : End F) → Walks P Q R D s steps es → receipts s (steps ++ step ∷ []) (es ++ e ∷ []) ≡ receipts s steps es ++ receipt (walked s steps es) e
  receipts_are s [] [] step e w = append-nil (receipt s e)
  receipts_are s [] (x ∷ es) step e w = absurd w
  receipts_are s (t ∷ steps) [] step e w = absurd w
  receipts_are s (t ∷ steps) (x ∷ es) step e w =
      ap (λ (rs : List (ℕ × List Pair)). receipt s x ++ rs) (receipts_are (after s t x) steps es step e w.1) ∙ sym (append_assoc (receipt s x) (receipts (after s t x) steps es) (receipt (walked (after s t x) steps es) e))

  pub as_many : (s : Stand) (steps : List Act) (es : List (End F)) → Walks P Q R D s steps es → length es ≡ length steps
  as_many s [] [] w = refl
  as_many s [] (x ∷ es) w = absurd w
  as_many s (t ∷ steps) [] w = absurd w
  as_many s (t ∷ steps) (x ∷ es) w = ap suc (as_many (after s t x) steps es w.1)

  -- the same by another history. What it says of a listed batch may rest on the receipt
  module _ (P' : List Pair → ℕ → Type 0) (Q' : Type 0) (R' : ℕ → List (List ℕ) → List (Option (List ℕ)) → Type 0) (D' : Type 0) (full : Q → Q') (answered : (n : ℕ) (keys : List (List ℕ)) (answers : List (Option (List ℕ))) → R n keys answers → R' n keys answers) (damaged : D → D') where
    ends_map : (s : Stand) (step : Act) (e : End F) → ((n : ℕ) → e ≡ Listed n → P s.pending n → P' s.pending n) → EndsWell P Q R D s step e → EndsWell P' Q' R' D' s step e
    ends_map s (Put p) PutOk listed h = h
    ends_map s (Put p) PutUnlisted listed h = h
    ends_map s (Put p) (Fault f) listed h = h
    ends_map s (Put p) (Listed n) listed h = h
    ends_map s (Put p) Nothing listed h = h
    ends_map s (Put p) TableFull listed h = h
    ends_map s (Put p) NoMemory listed h = h
    ends_map s (Put p) (Damaged d) listed h = h
    ends_map s (Put p) (Got n a) listed h = h
    ends_map s Flush PutOk listed h = h
    ends_map s Flush PutUnlisted listed h = h
    ends_map s Flush (Fault f) listed h = h
    ends_map s Flush (Listed n) listed h = (h.0, h.1, listed n refl h.2)
    ends_map s Flush Nothing listed h = h
    ends_map s Flush TableFull listed h = (h.0, full h.1)
    ends_map s Flush NoMemory listed h = h
    ends_map s Flush (Damaged d) listed h = h
    ends_map s Flush (Got n a) listed h = h
    ends_map s (Get keys) PutOk listed h = h
    ends_map s (Get keys) PutUnlisted listed h = h
    ends_map s (Get keys) (Fault f) listed h = h
    ends_map s (Get keys) (Listed n) listed h = h
    ends_map s (Get keys) Nothing listed h = h
    ends_map s (Get keys) TableFull listed h = h
    ends_map s (Get keys) NoMemory listed h = h
    ends_map s (Get keys) (Damaged d) listed h = damaged h
    ends_map s (Get keys) (Got n a) listed h = (h.0, answered n _ _ h.1)

    pub walks_map : (s : Stand) (steps : List Act) (es : List (End F)) → ((b : List Pair) (n : ℕ) → P b n → P' b n) → Walks P Q R D s steps es → Walks P' Q' R' D' s steps es
    walks_map s [] [] listed w = w
    walks_map s [] (x ∷ es) listed w = w
    walks_map s (t ∷ steps) [] listed w = w
    walks_map s (t ∷ steps) (x ∷ es) listed w = (ends_map s t x (λ n is h. listed s.pending n h) w.0, walks_map (after s t x) steps es listed w.1)

    -- where what it says of a listed batch rests on the receipt
    pub walks_map_receipts : (s : Stand) (steps : List Act) (es : List (End F)) → ((b : List Pair) (n : ℕ) → IsIn (receipts s steps es) (n, b) → P b n → P' b n) → Walks P Q R D s steps es → Walks P' Q' R' D' s steps es
    walks_map_receipts s [] [] listed w = w
    walks_map_receipts s [] (x ∷ es) listed w = w
    walks_map_receipts s (t ∷ steps) [] listed w = w
    walks_map_receipts s (t ∷ steps) (x ∷ es) listed w = (
      ends_map s t x (λ n is h. listed s.pending n (in_left (receipt s x) (receipts (after s t x) steps es) (n, s.pending) (subst (λ (e : End F). IsIn (receipt s e) (n, s.pending)) (sym is) (inl refl))) h) w.0,
      walks_map_receipts (after s t x) steps es (λ b n i h. listed b n (in_right (receipt s x) (receipts (after s t x) steps es) (n, b) i) h) w.1,
    )
