-- n different numbers from b + 1 to b + n are all of these.
use Rattle.std.proofs.Common.{◌≡◌, ◌≤◌, ◌<◌, ◌≢◌, ℕ, zero, suc, ◌+◌, List, [], ◌∷◌, length, sym, refl, ap, ◌∙◌, subst, arith, ◌⊎◌, inl, inr}
use mathlib.Core.Logic.{dite}
use native.Mathlib.Decide.{ℕ_discrete}
use Rattle.fd_numbers.specs.Numbers.{IsIn, Differ}

module _ {A : Type 0} where
  -- the list without one of its elements
  abbrev pub without : (ms : List A) (x : A) → IsIn ms x → List A
  without [] x p = []
  without (y ∷ ys) x (inl e) = ys
  without (y ∷ ys) x (inr p) = y ∷ without ys x p

  without_shorter : (ms : List A) (x : A) (p : IsIn ms x) → length ms ≡ length (without ms x p) + 1
  without_shorter [] x p = absurd p
  without_shorter (y ∷ ys) x (inl e) = omega arith
  without_shorter (y ∷ ys) x (inr p) = let rest = without_shorter ys x p in omega arith

  without_keeps : (ms : List A) (x z : A) (p : IsIn ms x) → IsIn ms z → (z ≡ x → ⊥) → IsIn (without ms x p) z
  without_keeps [] x z p q n = absurd p
  without_keeps (y ∷ ys) x z (inl e) (inl d) n = absurd (n (sym d ∙ e))
  without_keeps (y ∷ ys) x z (inl e) (inr q) n = q
  without_keeps (y ∷ ys) x z (inr p) (inl d) n = inl d
  without_keeps (y ∷ ys) x z (inr p) (inr q) n = inr (without_keeps ys x z p q n)

  pub fewer : (ns ms : List A) → Differ ns → ((z : A) → IsIn ns z → IsIn ms z) → length ns ≤ length ms
  fewer [] ms d h = omega arith
  fewer (n ∷ ns) ms d h =
      let p = h n (inl refl) in
      let rest = fewer ns (without ms n p) d.1 (λ z q. without_keeps ms n z p (h z (inr q)) (λ e. d.0 (subst (IsIn ns) e q))) in
      let s = without_shorter ms n p in omega arith

abbrev numbers : ℕ → ℕ → List ℕ
numbers b zero = []
numbers b (suc n) = suc b ∷ numbers (suc b) n

numbers_length : (b n : ℕ) → length (numbers b n) ≡ n
numbers_length b zero = refl
numbers_length b (suc n) = ap suc (numbers_length (suc b) n)

numbers_has : (b n j : ℕ) → b < j → j ≤ b + n → IsIn (numbers b n) j
numbers_has b zero j low high = absurd (omega arith)
numbers_has b (suc n) j low high = dite (ℕ_discrete (suc b) j) (λ e. inl e) (λ not. inr (numbers_has (suc b) n j (omega (arith, not)) (omega arith)))

is_in? : (ns : List ℕ) (j : ℕ) → IsIn ns j ⊎ (IsIn ns j → ⊥)
is_in? [] j = inr (λ p. p)
is_in? (n ∷ ns) j = dite (ℕ_discrete n j) (λ e. inl (inl e)) (λ not. go (is_in? ns j) not)
  where
    go : IsIn ns j ⊎ (IsIn ns j → ⊥) → (n ≡ j → ⊥) → IsIn (n ∷ ns) j ⊎ (IsIn (n ∷ ns) j → ⊥)
    go (inl p) not = inl (inr p)
    go (inr none) not = inr (elim [ inl e ↦ not e | inr p ↦ none p ])

-- n different numbers from b + 1 to b + n are all of these
pub all_of_them : (ns : List ℕ) (b n j : ℕ) → length ns ≡ n → Differ ns → ((z : ℕ) → IsIn ns z → (b < z) × (z ≤ b + n)) → b < j → j ≤ b + n → IsIn ns j
all_of_them ns b n j long d within low high = go (is_in? ns j)
  where
    go : IsIn ns j ⊎ (IsIn ns j → ⊥) → IsIn ns j
    go (inl p) = p
    go (inr none) =
        let p = numbers_has b n j low high in
        let few = fewer ns (without (numbers b n) j p) d (λ z q. without_keeps (numbers b n) j z p (numbers_has b n z ((within z q).0) ((within z q).1)) (λ e. none (subst (IsIn ns) e q))) in
        let s = without_shorter (numbers b n) j p in
        let len = numbers_length b n in
        absurd (omega arith)
