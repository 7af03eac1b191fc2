-- Places behind one another: of each key its own, and those under the layers, the nearest first.
use Rattle.std.specs.Prelude.{◌≡◌, ℕ, suc, zero, List, [], ◌∷◌, take, drop, length, map, All, Option, Some, None}
use Rattle.fd_key.specs.Pairs.{Pair}
use Rattle.fd_schema.specs.Rules.{Texts, file_key}
use Rattle.fd_outcome.specs.Layered.{Laid, all_places}

-- the keys with their places, of which each key has one, and then so many under layers
abbrev pub laid_by : ℕ → List (List Pair) → List Texts → List Laid
laid_by n [] ps = []
laid_by n (k ∷ ks) [] = []
laid_by n (k ∷ ks) (p ∷ ps) = record { key = k; place = p; under = take n ps } ∷ laid_by n ks (drop n ps)

-- the key has so many places under layers, and in all of them the same key in the files
pub record IsChain (n : ℕ) (a : Laid) : Type 0 where
  pub long : length a.under ≡ n
  pub same : All (λ p. file_key p ≡ file_key a.place) a.under

-- the places are those of the keys, of each as many
pub record AreChains (n : ℕ) (ks : List (List Pair)) (ps : List Texts) : Type 0 where
  pub places : all_places (laid_by n ks ps) ≡ ps
  pub keys : map (λ a. a.key) (laid_by n ks ps) ≡ ks
  pub each : All (IsChain n) (laid_by n ks ps)

-- the first that there is
abbrev pub first_some : {A : Type 0} → List (Option A) → Option A
first_some [] = None
first_some (Some x ∷ os) = Some x
first_some (None ∷ os) = first_some os

-- of each so many the first that there is, so often
abbrev pub firsts : {A : Type 0} → ℕ → ℕ → List (Option A) → List (Option A)
firsts n zero os = []
firsts n (suc m) os = first_some (take n os) ∷ firsts n m (drop n os)
