-- What several workers listed, each in the order of its numbers, as one list in the order of all numbers.
use Rattle.std.specs.Prelude.{◌≡◌, ◌≤◌, ◌<◌, ◌+◌, ◌==◌, ℕ, zero, suc, List, [], ◌∷◌, ◌++◌, if◌then◌else◌, length, map}
use Rattle.fd_numbers.specs.Numbers.{Differ}

module _ {A : Type 0} where
  -- the numbers of what was listed
  abbrev pub numbers_in : List (ℕ × A) → List ℕ
  numbers_in rs = map (λ (r : ℕ × A). r.0) rs

  -- the numbers rise, above the first and up to the second
  abbrev pub Rise : ℕ → ℕ → List (ℕ × A) → Type 0
  Rise low high [] = low ≤ high
  Rise low high (r ∷ rs) = (low < r.0) × Rise r.0 high rs

  -- what all workers listed, worker by worker
  abbrev pub joined : List (List (ℕ × A)) → List (ℕ × A)
  joined [] = []
  joined (l ∷ ls) = l ++ joined ls

  abbrev pub AllRise : ℕ → ℕ → List (List (ℕ × A)) → Type 0
  AllRise low high [] = Unit {0}
  AllRise low high (l ∷ ls) = Rise low high l × AllRise low high ls

  -- what the worker with this number, from 0, listed
  abbrev pub lane_at : ℕ → List (List (ℕ × A)) → List (ℕ × A)
  lane_at w [] = []
  lane_at zero (l ∷ ls) = l
  lane_at (suc w) (l ∷ ls) = lane_at w ls

  -- what is marked as a worker's
  abbrev pub those : ℕ → List (ℕ × (ℕ × A)) → List (ℕ × A)
  those w [] = []
  those w (t ∷ ts) = if t.0 == w then t.1 ∷ those w ts else those w ts

-- the n numbers behind one
abbrev pub numbers_from : ℕ → ℕ → List ℕ
numbers_from low zero = []
numbers_from low (suc n) = suc low ∷ numbers_from (suc low) n

-- what the workers listed in the order of the numbers, each with its worker
pub record Merged {A : Type 0} (low n : ℕ) (lanes : List (List (ℕ × A))) : Type 0 where
  pub each : List (ℕ × (ℕ × A))
  pub numbers : map (λ (t : ℕ × (ℕ × A)). t.1.0) each ≡ numbers_from low n
  pub by : (w : ℕ) → those w each ≡ lane_at w lanes

-- Workers whose numbers rise, are different, and are as many as there are from low + 1 to low + n, listed at each of these.
abbrev pub AreMerged : Type 0 → Type 0
AreMerged A = (low n : ℕ) (lanes : List (List (ℕ × A))) → AllRise low (low + n) lanes → Differ (numbers_in (joined lanes)) → length (joined lanes) ≡ n → Merged low n lanes
