-- Lists in which nothing comes twice.
use Rattle.std.proofs.Common.{⊎_elim, ◌≡◌, ◌≢◌, ◌<◌, ◌≤◌, ◌+◌, ◌∙◌, ℕ, zero, suc, cond, eqb, List, [], ◌∷◌, ◌++◌, length, get_or, set, refl, sym, ap, subst, length-append, arith}
use Rattle.std.specs.List.Sorted.{IsPermutation}
use Rattle.std.specs.List.{swap, AllPairs}
use Rattle.std.proofs.lemmas.List.{length-set, get_or-set_same, get_or-set_other}
use Rattle.std.proofs.lemmas.Bool.{cases_eq, cases_lt, eq-eqb, ne_eqb}
use Rattle.std.proofs.lemmas.Bool.Decides.{nat_tests}
use Rattle.std.proofs.lemmas.List.Sorted.{IsPermutation-keeps}
use Rattle.std.proofs.lemmas.List.Edits.{swap_is}
use Rattle.fd_cubes.specs.Cubes.{AreApart}

pub from_pairs : {X : Type 0} (xs : List X) → AllPairs (λ x y. x ≢ y) xs → AreApart xs
from_pairs xs h = record { at = go }
  where
    go : (i j : ℕ) (d : _) → i < length xs → j < length xs → get_or xs i d ≡ get_or xs j d → i ≡ j
    go i j d p q e = ⊎_elim (λ (lt : i < j). absurd (h i j d lt q e)) (λ (ge : j ≤ i). ⊎_elim (λ (lt : j < i). absurd (h j i d lt p (sym e))) (λ (le : i ≤ j). omega arith) (cases_lt j i)) (cases_lt i j)

pub to_pairs : {X : Type 0} (xs : List X) → AreApart xs → AllPairs (λ x y. x ≢ y) xs
to_pairs xs h i j d lt within e = let same = h.at i j d (omega arith) within e in omega arith

-- ---- in another order

-- which place the element at this place had before two changed places
abbrev turned : ℕ → ℕ → ℕ → ℕ
turned a b k = cond (eqb k b) a (cond (eqb k a) b k)

turned_apart : (a b i j : ℕ) → turned a b i ≡ turned a b j → i ≡ j
turned_apart a b i j e = grind (arith, nat_tests)

turned_within : (n a b k : ℕ) → a < n → b < n → k < n → turned a b k < n
turned_within n a b k p q r = grind (arith, nat_tests)

at_swap : {X : Type 0} (l : List X) (a b k : ℕ) (d : X) → a < length l → b < length l → k < length l → get_or (set (set l a (get_or l b d)) b (get_or l a d)) k d ≡ get_or l (turned a b k) d
at_swap {X} l a b k d p q r = ⊎_elim last (λ other. ⊎_elim (first other) (neither other) (cases_eq k a)) (cases_eq k b)
  where
    w : List X
    w = set l a (get_or l b d)

    last : k ≡ b → get_or (set w b (get_or l a d)) k d ≡ get_or l (turned a b k) d
    last e =
        ap (λ n. get_or (set w b (get_or l a d)) n d) e ∙ get_or-set_same w b (get_or l a d) d (omega (arith, length-set l a (get_or l b d), q))
        ∙ ap (λ t. get_or l (cond t a (cond (eqb k a) b k)) d) (sym (eq-eqb k b e))

    first : k ≢ b → k ≡ a → get_or (set w b (get_or l a d)) k d ≡ get_or l (turned a b k) d
    first n e =
        get_or-set_other w b k (get_or l a d) d n ∙ ap (λ m. get_or w m d) e ∙ get_or-set_same l a (get_or l b d) d p
        ∙ ap (λ t. get_or l (cond t a b) d) (sym (ne_eqb k b n)) ∙ ap (λ t. get_or l (cond (eqb k b) a (cond t b k)) d) (sym (eq-eqb k a e))

    neither : k ≢ b → k ≢ a → get_or (set w b (get_or l a d)) k d ≡ get_or l (turned a b k) d
    neither n m =
        get_or-set_other w b k (get_or l a d) d n ∙ get_or-set_other l a k (get_or l b d) d m
        ∙ ap (λ t. get_or l (cond t a k) d) (sym (ne_eqb k b n)) ∙ ap (λ t. get_or l (cond (eqb k b) a (cond t b k)) d) (sym (ne_eqb k a m))

swap_step : {X : Type 0} (l : List X) (a b : ℕ) → a < length l → b < length l → AreApart l → AreApart (swap l a b)
swap_step {X} l a b p q h = record { at = go }
  where
    long : (d : X) → length (swap l a b) ≡ length l
    long d = ap (λ (w : List X). length w) (sym (swap_is l a b d p q)) ∙ omega (arith, length-set l a (get_or l b d), length-set (set l a (get_or l b d)) b (get_or l a d))

    read : (k : ℕ) (d : X) → k < length l → get_or (swap l a b) k d ≡ get_or l (turned a b k) d
    read k d r = ap (λ (w : List X). get_or w k d) (sym (swap_is l a b d p q)) ∙ at_swap l a b k d p q r

    go : (i j : ℕ) (d : X) → i < length (swap l a b) → j < length (swap l a b) → get_or (swap l a b) i d ≡ get_or (swap l a b) j d → i ≡ j
    go i j d r s e =
        let i_in : i < length l = omega (arith, long d, r) in
        let j_in : j < length l = omega (arith, long d, s) in
        turned_apart a b i j
        (h.at (turned a b i) (turned a b j) d (turned_within (length l) a b i p q i_in) (turned_within (length l) a b j p q j_in) (sym (read i d i_in) ∙ e ∙ read j d j_in))

pub apart-permutation : {X : Type 0} (xs ys : List X) → IsPermutation xs ys → AreApart xs → AreApart ys
apart-permutation xs ys s h = IsPermutation-keeps xs AreApart h (λ l i j p q r. swap_step l i j p q r) ys s

-- ---- each two

-- R holds of each two
abbrev EachTwo : {X : Type 0} → (X → X → Type 0) → List X → Type 0
EachTwo {X} R xs = (i j : ℕ) (d : X) → i < length xs → j < length xs → i ≢ j → R (get_or xs i d) (get_or xs j d)

two_swapped : {X : Type 0} (R : X → X → Type 0) (l : List X) (a b : ℕ) → a < length l → b < length l → EachTwo R l → EachTwo R (swap l a b)
two_swapped {X} R l a b p q h i j d r s n =
    let i_in : i < length l = omega (arith, long, r) in
    let j_in : j < length l = omega (arith, long, s) in
    let two = h (turned a b i) (turned a b j) d (turned_within (length l) a b i p q i_in) (turned_within (length l) a b j p q j_in) (λ e. n (turned_apart a b i j e)) in
    subst (λ (x : X). R x (get_or (swap l a b) j d)) (sym (read i i_in)) (subst (λ (y : X). R (get_or l (turned a b i) d) y) (sym (read j j_in)) two)
  where
    long : length (swap l a b) ≡ length l
    long = ap (λ (w : List X). length w) (sym (swap_is l a b d p q)) ∙ omega (arith, length-set l a (get_or l b d), length-set (set l a (get_or l b d)) b (get_or l a d))

    read : (k : ℕ) → k < length l → get_or (swap l a b) k d ≡ get_or l (turned a b k) d
    read k t = ap (λ (w : List X). get_or w k d) (sym (swap_is l a b d p q)) ∙ at_swap l a b k d p q t

pub pairs-permutation : {X : Type 0} (R : X → X → Type 0) → ((x y : X) → R x y → R y x) → (xs ys : List X) → IsPermutation xs ys → AllPairs R xs → AllPairs R ys
pairs-permutation {X} R turn xs ys s h i j d lt within = (IsPermutation-keeps xs (EachTwo R) start (λ l a b p q r. two_swapped R l a b p q r) ys s) i j d (omega arith) within (λ e. omega (arith, e, lt))
  where
    start : EachTwo R xs
    start a b e p q n = ⊎_elim (λ (below : a < b). h a b e below q) (λ (above : b ≤ a). ⊎_elim (λ (below : b < a). turn _ _ (h b a e below p)) (λ (le : a ≤ b). absurd (n (omega arith))) (cases_lt b a)) (cases_lt a b)

-- another element in the place of one, of which all holds that held of that one
pub pairs-set : {X : Type 0} (R : X → X → Type 0) (xs : List X) (k : ℕ) (n : X) → k < length xs → ((d x : X) → R (get_or xs k d) x → R n x) → ((d x : X) → R x (get_or xs k d) → R x n) → AllPairs R xs → AllPairs R (set xs k n)
pairs-set {X} R xs k n lk left right h i j d lt within = ⊎_elim first (λ other. ⊎_elim (second other) (neither other) (cases_eq j k)) (cases_eq i k)
  where
    inside : j < length xs
    inside = omega (arith, length-set xs k n, within)

    here : (m : ℕ) → m ≡ k → get_or (set xs k n) m d ≡ n
    here m e = ap (λ t. get_or (set xs k n) t d) e ∙ get_or-set_same xs k n d lk

    first : i ≡ k → R (get_or (set xs k n) i d) (get_or (set xs k n) j d)
    first e =
        let was : R (get_or xs k d) (get_or xs j d) = subst (λ m. R (get_or xs m d) (get_or xs j d)) e (h i j d lt inside) in
        let there : get_or (set xs k n) j d ≡ get_or xs j d = get_or-set_other xs k j n d (λ s. omega (arith, s, e, lt)) in
        subst (λ (x : X). R x (get_or (set xs k n) j d)) (sym (here i e)) (subst (λ (y : X). R n y) (sym there) (left d (get_or xs j d) was))

    second : i ≢ k → j ≡ k → R (get_or (set xs k n) i d) (get_or (set xs k n) j d)
    second other e =
        let was : R (get_or xs i d) (get_or xs k d) = subst (λ m. R (get_or xs i d) (get_or xs m d)) e (h i j d lt inside) in
        subst (λ (x : X). R x (get_or (set xs k n) j d)) (sym (get_or-set_other xs k i n d other)) (subst (λ (y : X). R (get_or xs i d) y) (sym (here j e)) (right d (get_or xs i d) was))

    neither : i ≢ k → j ≢ k → R (get_or (set xs k n) i d) (get_or (set xs k n) j d)
    neither one two =
        subst (λ (x : X). R x (get_or (set xs k n) j d)) (sym (get_or-set_other xs k i n d one)) (subst (λ (y : X). R (get_or xs i d) y) (sym (get_or-set_other xs k j n d two)) (h i j d lt inside))

-- ---- parts

pub get_front : {X : Type 0} (xs ys : List X) (i : ℕ) (d : X) → i < length xs → get_or (xs ++ ys) i d ≡ get_or xs i d
get_front [] ys i d lt = absurd (omega arith)
get_front (x ∷ xs) ys zero d lt = refl
get_front (x ∷ xs) ys (suc i) d lt = get_front xs ys i d (omega arith)

pub get_behind : {X : Type 0} (xs ys : List X) (i : ℕ) (d : X) → get_or (xs ++ ys) (length xs + i) d ≡ get_or ys i d
get_behind [] ys i d = ap (λ n. get_or ys n d) (let e : 0 + i ≡ i = omega arith in e)
get_behind (x ∷ xs) ys i d = ap (λ n. get_or (x ∷ xs ++ ys) n d) (let e : suc (length xs) + i ≡ suc (length xs + i) = omega arith in e) ∙ get_behind xs ys i d

pub apart_front : {X : Type 0} (xs ys : List X) → AreApart (xs ++ ys) → AreApart xs
apart_front xs ys h = record {
  at = λ i j d p q e. h.at i j d (omega (arith, length-append xs ys, p)) (omega (arith, length-append xs ys, q)) (get_front xs ys i d p ∙ e ∙ sym (get_front xs ys j d q));
}

pub apart_behind : {X : Type 0} (xs ys : List X) → AreApart (xs ++ ys) → AreApart ys
apart_behind xs ys h = record {
  at = λ i j d p q e.
      let same = h.at (length xs + i) (length xs + j) d (omega (arith, length-append xs ys, p)) (omega (arith, length-append xs ys, q)) (get_behind xs ys i d ∙ e ∙ sym (get_behind xs ys j d)) in
      omega (arith, same);
}

-- what stands in front doesn't stand behind
pub apart_across : {X : Type 0} (xs ys : List X) (i j : ℕ) (d : X) → AreApart (xs ++ ys) → i < length xs → j < length ys → get_or xs i d ≡ get_or ys j d → ⊥
apart_across xs ys i j d h p q e =
    let same = h.at i (length xs + j) d (omega (arith, length-append xs ys, p)) (omega (arith, length-append xs ys, q)) (get_front xs ys i d p ∙ e ∙ sym (get_behind xs ys j d)) in
    omega (arith, same, p)
