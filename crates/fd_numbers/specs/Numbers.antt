-- Lists of different elements, and the law on numbers.
use Rattle.std.specs.Prelude.{◌≡◌, ◌<◌, ◌≤◌, ◌+◌, ◌⊎◌, ℕ, List, [], ◌∷◌, length}

-- x stands in the list
abbrev pub IsIn : {A : Type 0} → List A → A → Type 0
IsIn [] x = ⊥
IsIn (y ∷ ys) x = (y ≡ x) ⊎ IsIn ys x

-- no element stands in the list twice
abbrev pub Differ : {A : Type 0} → List A → Type 0
Differ [] = Unit {0}
Differ (x ∷ xs) = (IsIn xs x → ⊥) × Differ xs

-- as many different numbers as there are from b + 1 to b + n, each of them one of these, are all of these
abbrev pub AreAllNumbers : Type 0
AreAllNumbers = (ns : List ℕ) (b n j : ℕ) → length ns ≡ n → Differ ns → ((z : ℕ) → IsIn ns z → (b < z) × (z ≤ b + n)) → b < j → j ≤ b + n → IsIn ns j

-- different numbers that all stand in a list are no more than it has
abbrev pub AreNoMore : Type 0
AreNoMore = (ns ms : List ℕ) → Differ ns → ((z : ℕ) → IsIn ns z → IsIn ms z) → length ns ≤ length ms
