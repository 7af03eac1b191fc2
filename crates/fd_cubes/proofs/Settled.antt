-- Cubes of which no two can be joined.
use Rattle.std.proofs.Common.{◌≡◌, ◌<◌, ◌+◌, ◌∙◌, ℕ, List, [], ◌∷◌, ◌++◌, length, get_or, refl, sym, ap, subst, length-append, arith}
use Rattle.std.specs.List.{All, AllByRecursion}
use Rattle.std.specs.List.Sorted.{IsPermutation}
use Rattle.std.proofs.lemmas.List.{get_or-map, length-map}
use Rattle.std.proofs.lemmas.List.Elements.{recursion_from_All}
use Rattle.fd_request.specs.Expansion.{Keyword}
use Rattle.fd_cubes.specs.declared.grid.Grid as code_grid
use Rattle.fd_cubes.specs.Axes.{values_at, width, with_values}
use Rattle.fd_cubes.specs.Cubes.{cube_text, IsAxis, IsCube}
use Rattle.fd_cubes.specs.Grids.{seen_grid, seen_grids, AreSettled, IsGrid, Takes}
use Rattle.fd_cubes.specs.Joining.{CanJoin, CannotJoin, NoneCanJoin, SameAxes}
use Rattle.fd_cubes.proofs.Distinct.{pairs-permutation}
use Rattle.fd_cubes.proofs.Ordered.{Rising}
use Rattle.fd_cubes.proofs.Rising.{same_values}
use Rattle.fd_cubes.proofs.Sizes.{size_joined}

place_with : (before : List Keyword) (k : Keyword) (behind : List Keyword) (vs : List (List ℕ)) → with_values (length before) vs (before ++ k ∷ behind) ≡ before ++ record { name = k.name; values = vs } ∷ behind
place_with [] k behind vs = refl
place_with (b ∷ before) k behind vs = ap (λ (l : List Keyword). b ∷ l) (place_with before k behind vs)

place_at : (before : List Keyword) (k : Keyword) (behind : List Keyword) → values_at (length before) (before ++ k ∷ behind) ≡ k.values
place_at [] k behind = refl
place_at (b ∷ before) k behind = place_at before k behind

joined_size : (before : List Keyword) (k : Keyword) (behind : List Keyword) (vs : List (List ℕ)) → 0 < length k.values
    → length (cube_text (before ++ record { name = k.name; values = k.values ++ vs } ∷ behind)) ≡ length (cube_text (before ++ k ∷ behind)) + width vs
joined_size before k behind vs some =
    let ks = before ++ k ∷ behind in
    let p = length before in
    let at : values_at p ks ≡ k.values = place_at before k behind in
    ap (λ (l : List Keyword). length (cube_text l)) (sym (place_with before k behind (k.values ++ vs)) ∙ ap (λ (us : List (List ℕ)). with_values p (us ++ vs) ks) (sym at))
    ∙ size_joined p vs ks (omega (arith, length-append before (k ∷ behind))) (omega (arith, some, ap (λ (us : List (List ℕ)). length us) at))

-- the same values in byte order are the same list
same_axes : (ks ls : List Keyword) → SameAxes ks ls → Rising ks → Rising ls → ks ≡ ls
same_axes [] [] h hk hl = refl
same_axes [] (l ∷ ls) h hk hl = absurd h
same_axes (k ∷ ks) [] h hk hl = absurd h
same_axes (k ∷ ks) (l ∷ ls) h hk hl =
    let values : k.values ≡ l.values = same_values k.values l.values hk.0 hl.0 h.0.values in
    ap (λ (vs : List (List ℕ)). record { name = k.name; values = vs } ∷ ks) values ∙ ap (λ (n : List ℕ). record { name = n; values = l.values } ∷ ks) h.0.name ∙ ap (λ (x : List Keyword). l ∷ x) (same_axes ks ls h.1 hk.1 hl.1)

rising_front : (before behind : List Keyword) → Rising (before ++ behind) → Rising before
rising_front [] behind h = tt
rising_front (k ∷ before) behind h = (h.0, rising_front before behind h.1)

rising_behind : (before behind : List Keyword) → Rising (before ++ behind) → Rising behind
rising_behind [] behind h = h
rising_behind (k ∷ before) behind h = rising_behind before behind h.1

some_values : (g : code_grid.Grid) (before : List Keyword) (k : Keyword) (behind : List Keyword) → IsGrid g → seen_grid g ≡ before ++ k ∷ behind → 0 < length k.values
some_values g before k behind is e =
    let at : get_or (seen_grid g) (length before) k ≡ k = ap (λ (l : List Keyword). get_or l (length before) k) e ∙ go before in
    let filled = is.filled (length before) k (omega (arith, ap (λ (l : List Keyword). length l) e, length-append before (k ∷ behind))) in
    omega (arith, filled.some, ap (λ (x : Keyword). length x.values) at)
  where
    go : (l : List Keyword) → get_or (l ++ k ∷ behind) (length l) k ≡ k
    go [] = refl
    go (x ∷ l) = go l

-- where cubes can be joined, the one can take the values of the other
can_take : (g h : code_grid.Grid) → IsGrid g → Rising (seen_grid g) → Rising (seen_grid h) → (c : CanJoin (seen_grid g) (seen_grid h)) → Takes (length c.before) g h
can_take g h is up other_up c =
    let p = length c.before in
    let k : Keyword = record { name = c.name; values = c.values } in
    let l : Keyword = record { name = c.name; values = c.other_values } in
    let one_up : Rising (c.before ++ k ∷ c.behind) = subst Rising c.one up in
    let two_up : Rising (c.other_before ++ l ∷ c.other_behind) = subst Rising c.other other_up in
    let fronts : c.before ≡ c.other_before = same_axes c.before c.other_before c.same_before (rising_front c.before (k ∷ c.behind) one_up) (rising_front c.other_before (l ∷ c.other_behind) two_up) in
    let behinds : c.behind ≡ c.other_behind = same_axes c.behind c.other_behind c.same_behind (rising_behind c.before (k ∷ c.behind) one_up).1 (rising_behind c.other_before (l ∷ c.other_behind) two_up).1 in
    let other : seen_grid h ≡ c.before ++ l ∷ c.behind = c.other ∙ ap (λ (x : List Keyword). x ++ l ∷ c.other_behind) (sym fronts) ∙ ap (λ (x : List Keyword). c.before ++ l ∷ x) (sym behinds) in
    let values : values_at p (seen_grid h) ≡ c.other_values = ap (values_at p) other ∙ place_at c.before l c.behind in
    let size = joined_size c.before k c.behind c.other_values (some_values g c.before k c.behind is c.one) in
    record {
      within = omega (arith, ap (λ (x : List Keyword). length x) c.one, length-append c.before (k ∷ c.behind));
      same = ap (with_values p []) c.one ∙ place_with c.before k c.behind [] ∙ sym (place_with c.before l c.behind []) ∙ sym (ap (with_values p []) other);
      room = omega (arith, c.size, size, is.sized, ap (λ (x : List Keyword). length (cube_text x)) c.one, ap width values);
    }

rising_of : (ks : List Keyword) → AllByRecursion IsAxis ks → Rising ks
rising_of [] h = tt
rising_of (k ∷ ks) h = (h.0.rising, rising_of ks h.1)

none_join : (gs : List code_grid.Grid) → All IsGrid gs → All (λ g. IsCube (seen_grid g)) gs → AreSettled gs → NoneCanJoin (seen_grids gs)
none_join gs each cubes settled i j d lt within = go (some gs (omega (arith, length-map gs seen_grid, within)))
  where
    some : (l : List code_grid.Grid) → j < length l → code_grid.Grid
    some [] h = absurd (omega arith)
    some (x ∷ l) h = x

    up : (k : ℕ) (x : code_grid.Grid) → k < length gs → Rising (seen_grid (get_or gs k x))
    up k x h = rising_of _ (recursion_from_All IsAxis (seen_grid (get_or gs k x)) (cubes k x h).axes)

    go : code_grid.Grid → CannotJoin (get_or (seen_grids gs) i d) (get_or (seen_grids gs) j d)
    go x =
        let inside : j < length gs = omega (arith, length-map gs seen_grid, within) in
        let front : i < length gs = omega (arith, inside, lt) in
        let g = get_or gs i x in
        let h = get_or gs j x in
        let low : get_or (seen_grids gs) i d ≡ seen_grid g = get_or-map seen_grid gs i x d front in
        let high : get_or (seen_grids gs) j d ≡ seen_grid h = get_or-map seen_grid gs j x d inside in
        let both : CannotJoin (seen_grid g) (seen_grid h) = record {
          one = λ c. (settled (length c.before) i j x lt inside).one (can_take g h (each i x front) (up i x front) (up j x inside) c);
          other = λ c. (settled (length c.before) i j x lt inside).other (can_take h g (each j x inside) (up j x inside) (up i x front) c);
        } in
        subst (λ (a : List Keyword). CannotJoin a (get_or (seen_grids gs) j d)) (sym low) (subst (λ (b : List Keyword). CannotJoin (seen_grid g) b) (sym high) both)

turned : (a b : List Keyword) → CannotJoin a b → CannotJoin b a
turned a b h = record { one = h.other; other = h.one }

pub none_of_them : (gs : List code_grid.Grid) (cs : List (List Keyword)) → All IsGrid gs → All (λ g. IsCube (seen_grid g)) gs → AreSettled gs → IsPermutation (seen_grids gs) cs → NoneCanJoin cs
none_of_them gs cs each cubes settled h = pairs-permutation CannotJoin turned (seen_grids gs) cs h (none_join gs each cubes settled)
