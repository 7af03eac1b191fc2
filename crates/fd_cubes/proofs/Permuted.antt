-- Lists in another order.
use Rattle.std.proofs.Common.{◌≡◌, ◌<◌, ◌∙◌, ℕ, zero, suc, List, [], ◌∷◌, ◌++◌, length, get_or, set, refl, sym, ap, subst, append_assoc, arith}
use Rattle.std.specs.List.Sorted.{IsPermutation}
use Rattle.std.proofs.lemmas.List.Sorted.{IsPermutation-refl, IsPermutation-trans, IsPermutation-append_left, IsPermutation-append_right, IsPermutation-append_comm, IsPermutation-keeps}
use Rattle.std.proofs.lemmas.List.Edits.{swap_is}
use Rattle.fd_cubes.specs.Cubes.{gathered}

pub same_order : {X : Type 0} (xs ys : List X) → xs ≡ ys → IsPermutation xs ys
same_order xs ys e = subst (IsPermutation xs) e (IsPermutation-refl xs)

-- the front and what stands behind it change places before others
pub front_swapped : {X : Type 0} (xs ys zs : List X) → IsPermutation (xs ++ (ys ++ zs)) (ys ++ (xs ++ zs))
front_swapped xs ys zs =
    IsPermutation-trans _ _ _ (same_order _ _ (sym (append_assoc xs ys zs)))
    (IsPermutation-trans _ _ _ (IsPermutation-append_left zs (xs ++ ys) (ys ++ xs) (IsPermutation-append_comm xs ys)) (same_order _ _ (append_assoc ys xs zs)))

-- two lists of two halves, by their halves
pub halves_swapped : {X : Type 0} (ws bs cs ds : List X) → IsPermutation ((ws ++ bs) ++ (cs ++ ds)) ((ws ++ cs) ++ (bs ++ ds))
halves_swapped ws bs cs ds =
    IsPermutation-trans _ _ _ (same_order _ _ (append_assoc ws bs (cs ++ ds)))
    (IsPermutation-trans _ _ _ (IsPermutation-append_right ws _ _ (front_swapped bs cs ds)) (same_order _ _ (sym (append_assoc ws cs (bs ++ ds)))))

module _ {A B : Type 0} (f : A → List B) where
  pub gathered-append : (xs ys : List A) → gathered f (xs ++ ys) ≡ gathered f xs ++ gathered f ys
  gathered-append [] ys = refl
  gathered-append (x ∷ xs) ys = ap (λ (l : List B). f x ++ l) (gathered-append xs ys) ∙ sym (append_assoc (f x) (gathered f xs) (gathered f ys))

  -- an element in the place of another, which comes to the front
  exchanged : (x : A) (l : List A) (j : ℕ) (d : A) → j < length l → IsPermutation (f x ++ gathered f l) (f (get_or l j d) ++ gathered f (set l j x))
  exchanged x [] j d lt = absurd (omega arith)
  exchanged x (y ∷ l) zero d lt = front_swapped (f x) (f y) (gathered f l)
  exchanged x (y ∷ l) (suc j) d lt =
      let here = exchanged x l j d (omega arith) in
      IsPermutation-trans _ _ _ (front_swapped (f x) (f y) (gathered f l))
      (IsPermutation-trans _ _ _ (IsPermutation-append_right (f y) _ _ here) (front_swapped (f y) (f (get_or l j d)) (gathered f (set l j x))))

  swapped : (l : List A) (i j : ℕ) (d : A) → i < length l → j < length l → IsPermutation (gathered f l) (gathered f (set (set l i (get_or l j d)) j (get_or l i d)))
  swapped [] i j d p q = absurd (omega arith)
  swapped (y ∷ l) zero zero d p q = IsPermutation-refl (f y ++ gathered f l)
  swapped (y ∷ l) zero (suc j) d p q = exchanged y l j d (omega arith)
  swapped (y ∷ l) (suc i) zero d p q = exchanged y l i d (omega arith)
  swapped (y ∷ l) (suc i) (suc j) d p q = IsPermutation-append_right (f y) _ _ (swapped l i j d (omega arith) (omega arith))

  first_of : (l : List A) → 0 < length l → A
  first_of [] some = absurd (omega arith)
  first_of (x ∷ l) some = x

  pub gathered-permutation : (xs ys : List A) → IsPermutation xs ys → IsPermutation (gathered f xs) (gathered f ys)
  gathered-permutation xs ys = IsPermutation-keeps xs (λ l. IsPermutation (gathered f xs) (gathered f l)) (IsPermutation-refl (gathered f xs)) (λ l i j p q h.
      let d : A = first_of l (omega arith) in
      let step = swapped l i j d p q in
      IsPermutation-trans _ _ _ h (subst (λ (w : List A). IsPermutation (gathered f l) (gathered f w)) (swap_is l i j d p q) step)) ys

  -- an element in the place of another
  pub gathered-set : (l : List A) (i : ℕ) (x d : A) (more : List B) → i < length l → IsPermutation (f x) (f (get_or l i d) ++ more) → IsPermutation (gathered f (set l i x)) (gathered f l ++ more)
  gathered-set [] i x d more lt h = absurd (omega arith)
  gathered-set (y ∷ l) zero x d more lt h =
      IsPermutation-trans _ _ _ (IsPermutation-append_left (gathered f l) (f x) (f y ++ more) h)
      (IsPermutation-trans _ _ _ (same_order _ _ (append_assoc (f y) more (gathered f l)))
      (IsPermutation-trans _ _ _ (IsPermutation-append_right (f y) _ _ (IsPermutation-append_comm more (gathered f l))) (same_order _ _ (sym (append_assoc (f y) (gathered f l) more)))))
  gathered-set (y ∷ l) (suc i) x d more lt h =
      IsPermutation-trans _ _ _ (IsPermutation-append_right (f y) _ _ (gathered-set l i x d more (omega arith) h)) (same_order _ _ (sym (append_assoc (f y) (gathered f l) more)))
