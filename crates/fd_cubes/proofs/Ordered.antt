-- Cubes whose values are put in order.
use Rattle.std.proofs.Common.{◌≡◌, ◌<◌, ◌+◌, ◌∙◌, ℕ, zero, suc, List, [], ◌∷◌, ◌++◌, length, get_or, map, refl, sym, ap, subst, arith}
use Rattle.std.specs.List.{All, AllByRecursion, AllPairs, Contains, sum_by}
use Rattle.std.specs.List.Sorted.{IsPermutation}
use Rattle.std.proofs.lemmas.List.{get_or-map, length-map}
use Rattle.std.proofs.lemmas.List.Elements.{Contains-append_left, Contains-append_right}
use Rattle.std.proofs.lemmas.List.Sums.{sum_by-cons}
use Rattle.std.proofs.lemmas.List.Sorted.{IsPermutation-refl, IsPermutation-trans, All-permutation, length_permutation, sum_by-IsPermutation}
use Rattle.fd_key.specs.Pairs.{Pair}
use Rattle.fd_request.specs.Expansion.{Keyword, each_before, expand}
use Rattle.fd_cubes.specs.Axes.{AreSorted, IsReordered, width, with_values}
use Rattle.fd_cubes.specs.Cubes.{AreApart, IsBelow, IsPlain, keywords_text}
use Rattle.fd_cubes.proofs.Distinct.{apart_front, apart_behind, apart_across}
use Rattle.fd_cubes.proofs.Joined.{before, block, each_reordered, each_values}
use Rattle.fd_cubes.proofs.Sizes.{Filled, keyword_length}

-- the values of each name are in byte order
abbrev pub Sorted : List Keyword → Type 0
Sorted ks = AllByRecursion (λ k. AreSorted k.values) ks

-- and none of them comes twice
abbrev pub Rising : List Keyword → Type 0
Rising ks = AllByRecursion (λ k. AllPairs IsBelow k.values) ks

-- ---- keys that are apart have values that are apart

apart_cons : {X : Type 0} (x : X) (xs : List X) → AreApart xs → ((j : ℕ) (d : X) → j < length xs → x ≡ get_or xs j d → ⊥) → AreApart (x ∷ xs)
apart_cons {X} x xs h other = record { at = go }
  where
    go : (i j : ℕ) (d : X) → i < length (x ∷ xs) → j < length (x ∷ xs) → get_or (x ∷ xs) i d ≡ get_or (x ∷ xs) j d → i ≡ j
    go zero zero d p q e = refl
    go zero (suc j) d p q e = absurd (other j d (omega arith) e)
    go (suc i) zero d p q e = absurd (other i d (omega arith) (sym e))
    go (suc i) (suc j) d p q e = let same = h.at i j d (omega arith) (omega arith) e in omega (arith, same)

contains_map : {X Y : Type 0} (f : X → Y) (xs : List X) (x : X) → Contains xs x → Contains (map f xs) (f x)
contains_map f xs x h = (h.0, omega (arith, length-map xs f, h.1), get_or-map f xs h.0 x (f x) h.1 ∙ ap f h.2)

pub each_member : (name : List ℕ) (vs : List (List ℕ)) (others : List (List Pair)) (j : ℕ) (d : List ℕ) (key : List Pair) → j < length vs → Contains others key → Contains (each_before name vs others) ((name, get_or vs j d) ∷ key)
unfolding each_before
each_member name [] others j d key lt h = absurd (omega arith)
each_member name (v ∷ vs) others zero d key lt h = Contains-append_left (block name others v) (each_before name vs others) ((name, v) ∷ key) (contains_map (before name v) others key h)
each_member name (v ∷ vs) others (suc j) d key lt h = Contains-append_right (block name others v) (each_before name vs others) ((name, get_or vs j d) ∷ key) (each_member name vs others j d key (omega arith) h)

values_apart : (name : List ℕ) (vs : List (List ℕ)) (key : List Pair) (others : List (List Pair)) → AreApart (each_before name vs (key ∷ others)) → AreApart vs
unfolding each_before
values_apart name [] key others h = record { at = λ i j d p q e. absurd (omega arith) }
values_apart name (v ∷ vs) key others h =
    let first = block name (key ∷ others) v in
    let rest = each_before name vs (key ∷ others) in
    apart_cons v vs (values_apart name vs key others (apart_behind first rest h)) (λ j d lt e.
    let member = each_member name vs (key ∷ others) j d key lt (zero, omega arith, refl) in
    let there : Contains rest ((name, v) ∷ key) = subst (λ (w : List ℕ). Contains rest ((name, w) ∷ key)) (sym e) member in
    apart_across first rest zero there.0 ((name, v) ∷ key) h (omega arith) there.1 (sym there.2))

unmapped_apart : {X Y : Type 0} (f : X → Y) (xs : List X) → AreApart (map f xs) → AreApart xs
unmapped_apart f xs h = record {
  at = λ i j d p q e. h.at i j (f d) (omega (arith, length-map xs f, p)) (omega (arith, length-map xs f, q)) (get_or-map f xs i d (f d) p ∙ ap f e ∙ sym (get_or-map f xs j d (f d) q));
}

others_apart : (name : List ℕ) (vs : List (List ℕ)) (others : List (List Pair)) → 0 < length vs → AreApart (each_before name vs others) → AreApart others
unfolding each_before
others_apart name [] others some h = absurd (omega arith)
others_apart name (v ∷ vs) others some h = unmapped_apart (before name v) others (apart_front (block name others v) (each_before name vs others) h)

first_key : (ks : List Keyword) → Filled ks → (key : List Pair) × (more : List (List Pair)) × (expand ks ≡ key ∷ more)
unfolding expand each_before
first_key [] filled = ([], [], refl)
first_key (k ∷ ks) filled = go k.values filled.0.some (first_key ks filled.1)
  where
    go : (vs : List (List ℕ)) → 0 < length vs → (key : List Pair) × (more : List (List Pair)) × (expand ks ≡ key ∷ more) → (key : List Pair) × (more : List (List Pair)) × (each_before k.name vs (expand ks) ≡ key ∷ more)
    go [] some f = absurd (omega arith)
    go (v ∷ vs) some (key, more, e) = (before k.name v key, map (before k.name v) more ++ each_before k.name vs (expand ks), ap (λ (l : List (List Pair)). map (before k.name v) l ++ each_before k.name vs (expand ks)) e)

pub axes_apart : (ks : List Keyword) → Filled ks → AreApart (expand ks) → AllByRecursion (λ k. AreApart k.values) ks
unfolding expand
axes_apart [] filled h = tt
axes_apart (k ∷ ks) filled h =
    let f = first_key ks filled.1 in
    let first : AreApart k.values = values_apart k.name k.values f.0 f.1 (subst (λ (l : List (List Pair)). AreApart (each_before k.name k.values l)) f.2 h) in
    (first, axes_apart ks filled.1 (others_apart k.name k.values (expand ks) filled.0.some h))

-- ---- the values of every name in another order

abbrev pub Reordered : List Keyword → List Keyword → Type 0
Reordered [] [] = Unit {0}
Reordered [] (l ∷ ls) = ⊥
Reordered (k ∷ ks) [] = ⊥
Reordered (k ∷ ks) (l ∷ ls) = IsReordered k l × Reordered ks ls

pub expand_all : (ks ls : List Keyword) → Reordered ks ls → IsPermutation (expand ks) (expand ls)
unfolding expand
expand_all [] [] h = IsPermutation-refl ([] ∷ [])
expand_all [] (l ∷ ls) h = absurd h
expand_all (k ∷ ks) [] h = absurd h
expand_all (k ∷ ks) (l ∷ ls) h =
    IsPermutation-trans _ _ _ (each_values k.name k.values l.values (expand ks) h.0.values)
    (IsPermutation-trans _ _ _ (each_reordered k.name l.values (expand ks) (expand ls) (expand_all ks ls h.1))
    (subst (λ (n : List ℕ). IsPermutation (each_before k.name l.values (expand ls)) (each_before n l.values (expand ls))) h.0.name (IsPermutation-refl (each_before k.name l.values (expand ls)))))

reordered_itself : (ks : List Keyword) → Reordered ks ks
reordered_itself [] = tt
reordered_itself (k ∷ ks) = (record { name = refl; values = IsPermutation-refl k.values }, reordered_itself ks)

pub reordered_with : (p : ℕ) (us vs : List (List ℕ)) (ks : List Keyword) → IsPermutation us vs → Reordered (with_values p us ks) (with_values p vs ks)
reordered_with p us vs [] h = tt
reordered_with zero us vs (k ∷ ks) h = (record { name = refl; values = h }, reordered_itself ks)
reordered_with (suc p) us vs (k ∷ ks) h = (record { name = refl; values = IsPermutation-refl k.values }, reordered_with p us vs ks h)

-- ---- what stays

pub filled_all : (ks ls : List Keyword) → Reordered ks ls → Filled ks → Filled ls
filled_all [] [] h f = tt
filled_all [] (l ∷ ls) h f = absurd h
filled_all (k ∷ ks) [] h f = absurd h
filled_all (k ∷ ks) (l ∷ ls) h f =
    let plain : All (IsPlain l.name) l.values = subst (λ (n : List ℕ). All (IsPlain n) l.values) h.0.name (All-permutation (IsPlain k.name) k.values l.values h.0.values f.0.plain) in
    (record { some = omega (arith, length_permutation k.values l.values h.0.values, f.0.some); plain = plain }, filled_all ks ls h.1 f.1)

width_sum : (vs : List (List ℕ)) → width vs ≡ sum_by (λ v. length v + 1) vs
width_sum [] = refl
width_sum (v ∷ vs) = ap (λ n. length v + 1 + n) (width_sum vs) ∙ sym (sum_by-cons (λ w. length w + 1) v vs)

pub width_same : (vs ws : List (List ℕ)) → IsPermutation vs ws → width vs ≡ width ws
width_same vs ws h = width_sum vs ∙ sym (sum_by-IsPermutation (λ v. length v + 1) vs ws h) ∙ sym (width_sum ws)

pub text_same : (ks ls : List Keyword) → Reordered ks ls → Filled ks → Filled ls → length (keywords_text ks) ≡ length (keywords_text ls)
text_same [] [] h f g = refl
text_same [] (l ∷ ls) h f g = absurd h
text_same (k ∷ ks) [] h f g = absurd h
text_same (k ∷ ks) (l ∷ ls) h f g =
    omega (arith, keyword_length k ks f.0.some, keyword_length l ls g.0.some, width_same k.values l.values h.0.values, ap (λ (n : List ℕ). length n) h.0.name, text_same ks ls h.1 f.1 g.1)
