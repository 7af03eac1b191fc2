-- Values in byte order.
use Rattle.std.proofs.Common.{◌⊎◌, inl, inr, ◌≡◌, ◌≢◌, ◌∙◌, ℕ, zero, suc, false, List, [], ◌∷◌, get_or, refl, sym, ap, subst, arith}
use Rattle.std.specs.Prelude.{◌↔◌}
use Rattle.std.specs.List.{AllPairs, All, Contains}
use Rattle.std.specs.declared.cmp.Ordering.{Ordering}
use Rattle.std.specs.declared.cmp.Ordering.TheVariants.{Less, Equal, Greater}
use Rattle.std.specs.Ordering.{is_lt, ordering_reverse}
use Rattle.std.specs.Cmp.{IsTotalOrder}
use Rattle.std.proofs.lemmas.Cmp.{nat_list_cmp_total, tied_itself}
use Rattle.std.proofs.lemmas.Map.Lookups.{exact_bytes}
use Rattle.std.proofs.lemmas.List.Elements.{All-contains}
use Rattle.std.proofs.lemmas.List.Sorted.{sorted_far, ranks_by}
use Rattle.fd_cubes.specs.Axes.{AreSorted}
use Rattle.fd_cubes.specs.Cubes.{AreApart, order, IsBelow}

apart_rises : (v w : List ℕ) (o p : Ordering) → order v w ≡ o → order w v ≡ p → o ≡ ordering_reverse p → v ≢ w → is_lt p ≡ false → o ≡ Less
apart_rises v w Less p e f back apart up = refl
apart_rises v w Equal p e f back apart up = absurd (apart (exact_bytes v w e))
apart_rises v w Greater Less e f back apart up = absurd (cc)
apart_rises v w Greater Equal e f back apart up = absurd (cc)
apart_rises v w Greater Greater e f back apart up = absurd (cc)

-- texts in order, none of them twice
pub rising : (xs : List (List ℕ)) → AreSorted xs → AreApart xs → AllPairs IsBelow xs
rising xs sorted apart i j d lt within =
    let v = get_or xs i d in
    let w = get_or xs j d in
    let up = sorted_far (λ a b. is_lt (order a b)) (ranks_by nat_list_cmp_total (λ (x : List ℕ). x)) xs sorted i j d (omega arith) within in
    let other : v ≢ w = λ e. let same = apart.at i j d (omega arith) within e in omega (arith, same, lt) in
    apart_rises v w _ _ refl refl (IsTotalOrder.antisymm nat_list_cmp_total v w) other up

-- ---- the same values

-- each is below all that stand behind it
Up : List (List ℕ) → Type 0
Up [] = Unit {0}
Up (v ∷ vs) = All (IsBelow v) vs × Up vs

to_up : (vs : List (List ℕ)) → AllPairs IsBelow vs → Up vs
unfolding Up
to_up [] h = tt
to_up (v ∷ vs) h = (λ k d lt. h zero (suc k) d (omega arith) (omega arith), to_up vs (λ i j d lt within. h (suc i) (suc j) d (omega arith) (omega arith)))

member_cases : (v : List ℕ) (vs : List (List ℕ)) (w : List ℕ) → Contains (v ∷ vs) w → (v ≡ w) ⊎ Contains vs w
member_cases v vs w (zero, lt, e) = inl e
member_cases v vs w (suc k, lt, e) = inr (k, omega arith, e)

member_more : (v : List ℕ) (vs : List (List ℕ)) (w : List ℕ) → Contains vs w → Contains (v ∷ vs) w
member_more v vs w (k, lt, e) = (suc k, omega arith, e)

member_first : (v : List ℕ) (vs : List (List ℕ)) → Contains (v ∷ vs) v
member_first v vs = (zero, omega arith, refl)

not_itself : (v : List ℕ) → IsBelow v v → ⊥
not_itself v h = let e = tied_itself nat_list_cmp_total v in cc

below_member : (v w : List ℕ) (vs : List (List ℕ)) → All (IsBelow v) vs → Contains vs w → IsBelow v w
below_member v w vs all h = All-contains (IsBelow v) vs w all h

both_below : (v w : List ℕ) → IsBelow v w → IsBelow w v → ⊥
both_below v w h k = not_itself v (IsTotalOrder.trans nat_list_cmp_total v w v h k)

first_same : (v w : List ℕ) (vs ws : List (List ℕ)) → All (IsBelow v) vs → All (IsBelow w) ws → (v ≡ w) ⊎ Contains ws v → (w ≡ v) ⊎ Contains vs w → v ≡ w
first_same v w vs ws hv hw (inl e) other = e
first_same v w vs ws hv hw (inr c) (inl e) = sym e
first_same v w vs ws hv hw (inr c) (inr k) = absurd (both_below v w (below_member v w vs hv k) (below_member w v ws hw c))

same_up : (vs ws : List (List ℕ)) → Up vs → Up ws → ((u : List ℕ) → Contains vs u ↔ Contains ws u) → vs ≡ ws
unfolding Up
same_up [] [] hv hw h = refl
same_up [] (w ∷ ws) hv hw h = let k = (h w).1 (member_first w ws) in absurd (omega (arith, k.1))
same_up (v ∷ vs) [] hv hw h = let k = (h v).0 (member_first v vs) in absurd (omega (arith, k.1))
same_up (v ∷ vs) (w ∷ ws) hv hw h =
    let e : v ≡ w = first_same v w vs ws hv.0 hw.0 (flipped (member_cases w ws v ((h v).0 (member_first v vs)))) (turned (member_cases v vs w ((h w).1 (member_first w ws)))) in
    let rest : vs ≡ ws = same_up vs ws hv.1 hw.1 (λ u. (forward e u, back e u)) in
    ap (λ x. x ∷ vs) e ∙ ap (λ (l : List (List ℕ)). w ∷ l) rest
  where
    flipped : (w ≡ v) ⊎ Contains ws v → (v ≡ w) ⊎ Contains ws v
    flipped (inl e) = inl (sym e)
    flipped (inr c) = inr c

    turned : (v ≡ w) ⊎ Contains vs w → (w ≡ v) ⊎ Contains vs w
    turned (inl e) = inl (sym e)
    turned (inr c) = inr c

    forward : v ≡ w → (u : List ℕ) → Contains vs u → Contains ws u
    forward e u c = go (member_cases w ws u ((h u).0 (member_more v vs u c)))
      where
        go : (w ≡ u) ⊎ Contains ws u → Contains ws u
        go (inl same) = absurd (not_itself u (subst (λ x. IsBelow x u) (e ∙ same) (below_member v u vs hv.0 c)))
        go (inr k) = k

    back : v ≡ w → (u : List ℕ) → Contains ws u → Contains vs u
    back e u c = go (member_cases v vs u ((h u).1 (member_more w ws u c)))
      where
        go : (v ≡ u) ⊎ Contains vs u → Contains vs u
        go (inl same) = absurd (not_itself u (subst (λ x. IsBelow x u) (sym e ∙ same) (below_member w u ws hw.0 c)))
        go (inr k) = k

pub same_values : (vs ws : List (List ℕ)) → AllPairs IsBelow vs → AllPairs IsBelow ws → ((u : List ℕ) → Contains vs u ↔ Contains ws u) → vs ≡ ws
same_values vs ws hv hw h = same_up vs ws (to_up vs hv) (to_up ws hw) h
