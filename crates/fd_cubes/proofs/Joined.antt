-- The keys of joined cubes.
use Rattle.std.proofs.Common.{◌≡◌, ◌<◌, ◌∙◌, ℕ, zero, suc, List, [], ◌∷◌, ◌++◌, length, map, refl, sym, ap, arith}
use Rattle.std.specs.List.Sorted.{IsPermutation}
use Rattle.std.proofs.lemmas.List.Sorted.{IsPermutation-refl, IsPermutation-trans, IsPermutation-append, IsPermutation-map}
use Rattle.fd_cubes.specs.Cubes.{gathered}
use Rattle.fd_key.specs.Pairs.{Pair}
use Rattle.fd_request.specs.Expansion.{Keyword, each_before, expand}
use Rattle.fd_cubes.specs.Axes.{with_values, values_at}
use Rattle.fd_cubes.proofs.Permuted.{same_order, halves_swapped, gathered-append, gathered-permutation}

abbrev pub before : List ℕ → List ℕ → List Pair → List Pair
before name v key = (name, v) ∷ key

abbrev pub block : List ℕ → List (List Pair) → List ℕ → List (List Pair)
block name others v = map (before name v) others

each_gathered : (name : List ℕ) (vs : List (List ℕ)) (others : List (List Pair)) → each_before name vs others ≡ gathered (block name others) vs
unfolding each_before
each_gathered name [] others = refl
each_gathered name (v ∷ vs) others = ap (λ (l : List (List Pair)). block name others v ++ l) (each_gathered name vs others)

map_append : (name v : List ℕ) (xs ys : List (List Pair)) → block name (xs ++ ys) v ≡ block name xs v ++ block name ys v
map_append name v [] ys = refl
map_append name v (x ∷ xs) ys = ap (λ (l : List (List Pair)). before name v x ∷ l) (map_append name v xs ys)

-- the other keys in another order
pub each_reordered : (name : List ℕ) (vs : List (List ℕ)) (xs ys : List (List Pair)) → IsPermutation xs ys → IsPermutation (each_before name vs xs) (each_before name vs ys)
unfolding each_before
each_reordered name [] xs ys h = IsPermutation-refl []
each_reordered name (v ∷ vs) xs ys h = IsPermutation-append _ _ _ _ (IsPermutation-map (before name v) xs ys h) (each_reordered name vs xs ys h)

-- the values in another order
pub each_values : (name : List ℕ) (us vs : List (List ℕ)) (others : List (List Pair)) → IsPermutation us vs → IsPermutation (each_before name us others) (each_before name vs others)
each_values name us vs others h =
    let f = block name others in
    IsPermutation-trans _ _ _ (same_order _ _ (each_gathered name us others)) (IsPermutation-trans _ _ _ (gathered-permutation f us vs h) (same_order _ _ (sym (each_gathered name vs others))))

-- before the other keys in two parts
each_parted : (name : List ℕ) (vs : List (List ℕ)) (xs ys : List (List Pair)) → IsPermutation (each_before name vs (xs ++ ys)) (each_before name vs xs ++ each_before name vs ys)
unfolding each_before
each_parted name [] xs ys = IsPermutation-refl []
each_parted name (v ∷ vs) xs ys =
    IsPermutation-trans _ _ _ (IsPermutation-append _ _ _ _ (same_order _ _ (map_append name v xs ys)) (each_parted name vs xs ys))
    (halves_swapped (block name xs v) (block name ys v) (each_before name vs xs) (each_before name vs ys))

-- the keys of a cube with two lists of values are those of the cubes with each of them
pub expand_parted : (p : ℕ) (us vs : List (List ℕ)) (ks : List Keyword) → p < length ks → IsPermutation (expand (with_values p (us ++ vs) ks)) (expand (with_values p us ks) ++ expand (with_values p vs ks))
unfolding expand
expand_parted p us vs [] lt = absurd (omega arith)
expand_parted zero us vs (k ∷ ks) lt =
    let f = block k.name (expand ks) in
    same_order _ _ (each_gathered k.name (us ++ vs) (expand ks) ∙ gathered-append f us vs ∙ ap (λ (l : List (List Pair)). l ++ gathered f vs) (sym (each_gathered k.name us (expand ks))) ∙ ap (λ (l : List (List Pair)). each_before k.name us (expand ks) ++ l) (sym (each_gathered k.name vs (expand ks))))
expand_parted (suc p) us vs (k ∷ ks) lt =
    IsPermutation-trans _ _ _ (each_reordered k.name k.values _ _ (expand_parted p us vs ks (omega arith))) (each_parted k.name k.values (expand (with_values p us ks)) (expand (with_values p vs ks)))

-- ---- the values at a place

pub values_stay : (p : ℕ) (ks : List Keyword) → with_values p (values_at p ks) ks ≡ ks
values_stay p [] = refl
values_stay zero (k ∷ ks) = refl
values_stay (suc p) (k ∷ ks) = ap (λ (l : List Keyword). k ∷ l) (values_stay p ks)

pub values_again : (p : ℕ) (us vs : List (List ℕ)) (ks : List Keyword) → with_values p us (with_values p vs ks) ≡ with_values p us ks
values_again p us vs [] = refl
values_again zero us vs (k ∷ ks) = refl
values_again (suc p) us vs (k ∷ ks) = ap (λ (l : List Keyword). k ∷ l) (values_again p us vs ks)

-- the one with the values of the other is the other
pub other_values : (p : ℕ) (ks ls : List Keyword) → with_values p [] ks ≡ with_values p [] ls → with_values p (values_at p ls) ks ≡ ls
other_values p ks ls e = sym (values_again p (values_at p ls) [] ks) ∙ ap (with_values p (values_at p ls)) e ∙ values_again p (values_at p ls) [] ls ∙ values_stay p ls

-- two cubes that differ at most at one place: the one with the values of both has the keys of both
pub expand_joined : (p : ℕ) (ks ls : List Keyword) → with_values p [] ks ≡ with_values p [] ls → p < length ks → IsPermutation (expand (with_values p (values_at p ks ++ values_at p ls) ks)) (expand ks ++ expand ls)
expand_joined p ks ls e lt =
    IsPermutation-trans _ _ _ (expand_parted p (values_at p ks) (values_at p ls) ks lt)
    (IsPermutation-append _ _ _ _ (same_order _ _ (ap expand (values_stay p ks))) (same_order _ _ (ap expand (other_values p ks ls e))))
