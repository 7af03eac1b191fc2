-- Lists of different elements: the one whose elements all stand in the other is no longer.
use Rattle.std.proofs.Common.{◌≡◌, ◌≤◌, ◌+◌, List, [], ◌∷◌, length, sym, refl, ◌∙◌, subst, arith, ◌⊎◌, inl, inr}

-- x stands in the list
abbrev pub IsIn : {A : Type 0} → List A → A → Type 0
IsIn [] x = ⊥
IsIn (y ∷ ys) x = (y ≡ x) ⊎ IsIn ys x

-- no element stands in the list twice
abbrev pub Differ : {A : Type 0} → List A → Type 0
Differ [] = Unit {0}
Differ (x ∷ xs) = (IsIn xs x → ⊥) × Differ xs

module _ {A : Type 0} where
  -- the list without one of its elements
  abbrev without : (ms : List A) (x : A) → IsIn ms x → List A
  without [] x p = []
  without (y ∷ ys) x (inl e) = ys
  without (y ∷ ys) x (inr p) = y ∷ without ys x p

  without_shorter : (ms : List A) (x : A) (p : IsIn ms x) → length ms ≡ length (without ms x p) + 1
  without_shorter [] x p = absurd p
  without_shorter (y ∷ ys) x (inl e) = omega arith
  without_shorter (y ∷ ys) x (inr p) = let rest = without_shorter ys x p in omega arith

  without_keeps : (ms : List A) (x z : A) (p : IsIn ms x) → IsIn ms z → (z ≡ x → ⊥) → IsIn (without ms x p) z
  without_keeps [] x z p q n = absurd p
  without_keeps (y ∷ ys) x z (inl e) (inl d) n = absurd (n (sym d ∙ e))
  without_keeps (y ∷ ys) x z (inl e) (inr q) n = q
  without_keeps (y ∷ ys) x z (inr p) (inl d) n = inl d
  without_keeps (y ∷ ys) x z (inr p) (inr q) n = inr (without_keeps ys x z p q n)

  pub no_longer : (ns ms : List A) → Differ ns → ((z : A) → IsIn ns z → IsIn ms z) → length ns ≤ length ms
  no_longer [] ms d h = omega arith
  no_longer (n ∷ ns) ms d h =
      let p = h n (inl refl) in
      let rest = no_longer ns (without ms n p) d.1 (λ z q. without_keeps ms n z p (h z (inr q)) (λ e. d.0 (subst (IsIn ns) e q))) in
      let s = without_shorter ms n p in omega arith
