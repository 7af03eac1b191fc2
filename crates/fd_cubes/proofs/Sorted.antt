-- Values in byte order, behind one another.
use Rattle.std.proofs.Common.{⊎_elim, ◌≡◌, ◌<◌, ◌≤◌, ◌+◌, ◌-◌, ◌∙◌, ℕ, zero, suc, Bool, true, false, List, [], ◌∷◌, ◌++◌, length, get_or, refl, sym, ap, subst, length-append, arith}
use Rattle.std.specs.Prelude.{String, string_bytes}
use Rattle.std.specs.List.Sorted.{IsPermutation, IsSortedBy}
use Rattle.std.specs.declared.cmp.Ordering.{Ordering}
use Rattle.std.specs.declared.cmp.Ordering.TheVariants.{Less, Equal, Greater}
use Rattle.std.proofs.lemmas.List.Sorted.{IsPermutation-map}
use Rattle.std.specs.Ordering.{is_ge, is_lt}
use Rattle.std.specs.declared.alloc.Global.{Global}
use Rattle.std.proofs.lemmas.Bool.{cases_eq, cases_lt}
use Rattle.std.proofs.lemmas.List.{get_or_append_left, get_or-append_right, get_or-map, length-map}
use Rattle.fd_spelling.specs.Texts.{texts}
use Rattle.fd_request.specs.Expansion.{Keyword}
use Rattle.fd_cubes.specs.Axes.{AreSorted, values_at, with_values}
use Rattle.fd_cubes.specs.Cubes.{order}
use Rattle.fd_cubes.proofs.Ordered.{Sorted}

-- the first of those behind isn't less than the last of those in front
joined_sorted : {X : Type 0} (lt : X → X → Bool) (xs ys : List X) → IsSortedBy lt xs → IsSortedBy lt ys → ((d : X) → 0 < length xs → 0 < length ys → lt (get_or ys 0 d) (get_or xs (length xs - 1) d) ≡ false) → IsSortedBy lt (xs ++ ys)
joined_sorted {X} lt xs ys hx hy seam k d from within = ⊎_elim inside (λ past. ⊎_elim at_seam (λ other. behind (omega (arith, past, other))) (cases_eq (k + 1) (length xs))) (cases_lt (k + 1) (length xs))
  where
    both : (a b : X) → get_or (xs ++ ys) (k + 1) d ≡ a → get_or (xs ++ ys) k d ≡ b → lt a b ≡ false → lt (get_or (xs ++ ys) (k + 1) d) (get_or (xs ++ ys) k d) ≡ false
    both a b e f h = ap (λ x. lt x (get_or (xs ++ ys) k d)) e ∙ ap (λ x. lt a x) f ∙ h

    inside : k + 1 < length xs → lt (get_or (xs ++ ys) (k + 1) d) (get_or (xs ++ ys) k d) ≡ false
    inside h = both _ _ (get_or_append_left xs ys d (k + 1) h) (get_or_append_left xs ys d k (omega arith)) (hx k d from h)

    at_seam : k + 1 ≡ length xs → lt (get_or (xs ++ ys) (k + 1) d) (get_or (xs ++ ys) k d) ≡ false
    at_seam e =
        let last : k ≡ length xs - 1 = omega (arith, e) in
        let first : k + 1 - length xs ≡ 0 = omega (arith, e) in
        both (get_or ys 0 d) (get_or xs (length xs - 1) d) (get_or-append_right xs ys (length xs) (k + 1) d refl (omega (arith, e)) ∙ ap (λ n. get_or ys n d) first)
        (get_or_append_left xs ys d k (omega (arith, e)) ∙ ap (λ n. get_or xs n d) last) (seam d (omega (arith, e)) (omega (arith, e, within, length-append xs ys)))

    behind : length xs ≤ k → lt (get_or (xs ++ ys) (k + 1) d) (get_or (xs ++ ys) k d) ≡ false
    behind h =
        let next : k + 1 - length xs ≡ k - length xs + 1 = omega arith in
        both (get_or ys (k - length xs + 1) d) (get_or ys (k - length xs) d) (get_or-append_right xs ys (length xs) (k + 1) d refl (omega arith) ∙ ap (λ n. get_or ys n d) next)
        (get_or-append_right xs ys (length xs) k d refl h) (hy (k - length xs) d (omega arith) (omega (arith, within, length-append xs ys)))

-- texts that a sort gives
pub texts_sorted : (vs : List (String Global)) → IsSortedBy (λ x y. is_lt (order (string_bytes x) (string_bytes y))) vs → AreSorted (texts vs)
texts_sorted vs h k d from within = go (some vs within)
  where
    some : (l : List (String Global)) → k + 1 < length (texts l) → String Global
    some [] lt = absurd (omega arith)
    some (x ∷ l) lt = x

    go : String Global → is_lt (order (get_or (texts vs) (k + 1) d) (get_or (texts vs) k d)) ≡ false
    go x =
        let high : get_or (texts vs) (k + 1) d ≡ string_bytes (get_or vs (k + 1) x) = get_or-map string_bytes vs (k + 1) x d (omega (arith, within, length-map vs string_bytes)) in
        let low : get_or (texts vs) k d ≡ string_bytes (get_or vs k x) = get_or-map string_bytes vs k x d (omega (arith, within, length-map vs string_bytes)) in
        ap (λ v. is_lt (order v (get_or (texts vs) k d))) high ∙ ap (λ w. is_lt (order (string_bytes (get_or vs (k + 1) x)) w)) low ∙ h k x from (omega (arith, within, length-map vs string_bytes))

pub texts_joined : (xs ys : List (String Global)) (a b : String Global) → 0 < length xs → 0 < length ys → a ≡ get_or xs (length xs - 1) a → b ≡ get_or ys 0 b → is_lt (order (string_bytes b) (string_bytes a)) ≡ false
    → AreSorted (texts xs) → AreSorted (texts ys) → AreSorted (texts xs ++ texts ys)
texts_joined xs ys a b some more ia ib up hx hy = joined_sorted (λ v w. is_lt (order v w)) (texts xs) (texts ys) hx hy (λ d p q.
    let high : get_or (texts ys) 0 d ≡ string_bytes b = get_or-map string_bytes ys 0 b d more ∙ ap string_bytes (sym ib) in
    let last : length (texts xs) - 1 ≡ length xs - 1 = ap (λ n. n - 1) (length-map xs string_bytes) in
    let low : get_or (texts xs) (length (texts xs) - 1) d ≡ string_bytes a = ap (λ n. get_or (texts xs) n d) last ∙ get_or-map string_bytes xs (length xs - 1) a d (omega (arith, some)) ∙ ap string_bytes (sym ia) in
    ap (λ v. is_lt (order v (get_or (texts xs) (length (texts xs) - 1) d))) high ∙ ap (λ w. is_lt (order (string_bytes b) w)) low ∙ up)

pub none_behind : (xs ys : List (List ℕ)) → length ys ≡ 0 → AreSorted xs → AreSorted (xs ++ ys)
none_behind xs ys none h = joined_sorted (λ v w. is_lt (order v w)) xs ys h (λ k d from within. absurd (omega (arith, none, within))) (λ d p q. absurd (omega (arith, none, q)))

pub none_before : (xs ys : List (List ℕ)) → length xs ≡ 0 → AreSorted ys → AreSorted (xs ++ ys)
none_before [] ys none h = h
none_before (x ∷ xs) ys none h = absurd (omega (arith, none))

pub one_is_ge : (v w : List ℕ) → is_ge (order v w) ≡ true → is_lt (order v w) ≡ false
one_is_ge v w h = go (order v w) h
  where
    go : (o : Ordering) → is_ge o ≡ true → is_lt o ≡ false
    go Less e = absurd (cc)
    go Equal e = refl
    go Greater e = refl

-- what a sort makes of texts
pub texts_moved : (us vs : List (String Global)) (ws : List (List ℕ)) → ws ≡ texts us → IsPermutation us vs → IsPermutation ws (texts vs)
texts_moved us vs ws e h = subst (λ (l : List (List ℕ)). IsPermutation l (texts vs)) (sym e) (IsPermutation-map string_bytes us vs h)

pub texts_appended : (us vs : List (String Global)) → texts (us ++ vs) ≡ texts us ++ texts vs
texts_appended [] vs = refl
texts_appended (u ∷ us) vs = ap (λ (l : List (List ℕ)). string_bytes u ∷ l) (texts_appended us vs)

-- ---- of keywords

pub sorted_with : (p : ℕ) (vs : List (List ℕ)) (ks : List Keyword) → AreSorted vs → Sorted ks → Sorted (with_values p vs ks)
sorted_with p vs [] h s = tt
sorted_with zero vs (k ∷ ks) h s = (h, s.1)
sorted_with (suc p) vs (k ∷ ks) h s = (s.0, sorted_with p vs ks h s.1)

pub sorted_at : (p : ℕ) (ks : List Keyword) → p < length ks → Sorted ks → AreSorted (values_at p ks)
sorted_at p [] lt s = absurd (omega arith)
sorted_at zero (k ∷ ks) lt s = s.0
sorted_at (suc p) (k ∷ ks) lt s = sorted_at p ks (omega arith) s.1
