-- A number of each view, added up.
use Rattle.std.proofs.Common.{◌≡◌, ℕ, ◌+◌, ◌≤◌, ◌≢◌, zero, suc, List, [], ◌∷◌, ◌++◌, set, sym, refl, ap, arith}
use mathlib.Core.Option.{some, some-injective, some-ne-none}
use lib.ListN.{get_elem?}
use Rattle.fd_turn.specs.Rule.{total}
use Rattle.fd_turn.specs.declared.view.SeatView.{SeatView}

module _ (f : SeatView → ℕ) where
  pub total_set : (vs : List SeatView) (i : ℕ) (v w : SeatView) → get_elem? vs i ≡ some v → total f (set vs i w) + f v ≡ total f vs + f w
  total_set [] i v w e = absurd (some-ne-none v (sym e))
  total_set (x ∷ xs) zero v w e = let same : f x ≡ f v = ap f (some-injective x v e) in omega arith
  total_set (x ∷ xs) (suc i) v w e = let rest = total_set xs i v w e in omega arith

  -- a change that leaves the number as it was
  pub total_same : (vs : List SeatView) (i : ℕ) (v w : SeatView) → get_elem? vs i ≡ some v → f w ≡ f v → total f (set vs i w) ≡ total f vs
  total_same vs i v w e same = let sum = total_set vs i v w e in omega arith

  pub total_snoc : (vs : List SeatView) (w : SeatView) → total f (vs ++ w ∷ []) ≡ total f vs + f w
  total_snoc [] w = omega arith
  total_snoc (x ∷ xs) w = let rest = total_snoc xs w in omega arith

  pub total_one : (vs : List SeatView) (i : ℕ) (v : SeatView) → get_elem? vs i ≡ some v → f v ≤ total f vs
  total_one [] i v e = absurd (some-ne-none v (sym e))
  total_one (x ∷ xs) zero v e = let same : f x ≡ f v = ap f (some-injective x v e) in omega arith
  total_one (x ∷ xs) (suc i) v e = let rest = total_one xs i v e in omega arith

  pub total_two : (vs : List SeatView) (i j : ℕ) (v u : SeatView) → j ≢ i → get_elem? vs i ≡ some v → get_elem? vs j ≡ some u → f v + f u ≤ total f vs
  total_two [] i j v u n e d = absurd (some-ne-none v (sym e))
  total_two (x ∷ xs) zero zero v u n e d = absurd (n refl)
  total_two (x ∷ xs) zero (suc j) v u n e d = let same : f x ≡ f v = ap f (some-injective x v e) in let rest = total_one xs j u d in omega arith
  total_two (x ∷ xs) (suc i) zero v u n e d = let same : f x ≡ f u = ap f (some-injective x u d) in let rest = total_one xs i v e in omega arith
  total_two (x ∷ xs) (suc i) (suc j) v u n e d = let rest = total_two xs i j v u (λ q. n (ap suc q)) e d in omega arith

  pub total_none : (vs : List SeatView) → ((j : ℕ) (u : SeatView) → get_elem? vs j ≡ some u → f u ≡ 0) → total f vs ≡ 0
  total_none [] all = refl
  total_none (x ∷ xs) all = let here : f x ≡ 0 = all 0 x refl in let rest = total_none xs (λ j u e. all (suc j) u e) in omega arith

  -- where every other view has none, the total is that of one view
  pub total_alone : (vs : List SeatView) (i : ℕ) (v : SeatView) → get_elem? vs i ≡ some v → ((j : ℕ) (u : SeatView) → j ≢ i → get_elem? vs j ≡ some u → f u ≡ 0) → total f vs ≡ f v
  total_alone [] i v e others = absurd (some-ne-none v (sym e))
  total_alone (x ∷ xs) zero v e others =
      let same : f x ≡ f v = ap f (some-injective x v e) in
      let rest = total_none xs (λ j u d. others (suc j) u (λ q. omega arith) d) in omega arith
  total_alone (x ∷ xs) (suc i) v e others =
      let here : f x ≡ 0 = others 0 x (λ q. omega arith) refl in
      let rest = total_alone xs i v e (λ j u n d. others (suc j) u (λ q. n (omega arith)) d) in omega arith
