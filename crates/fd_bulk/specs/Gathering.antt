-- What several workers listed in one history.
use Rattle.std.specs.Prelude.{◌≡◌, ◌-◌, ℕ, List, [], ◌∷◌, ◌++◌, length, map, take, slice_get, Option, Some, None}
use Rattle.fd_shares.specs.Merging.{AllRise, joined, lane_at, those}

-- what a worker listed, with the numbers at which it did, and the writer of all that, where it listed under one
pub record Lane (A : Type 0) : Type 0 where
  pub writer : Option ℕ
  pub receipts : List (ℕ × A)

abbrev pub writers_with : Option ℕ → List ℕ → List ℕ
writers_with None ws = ws
writers_with (Some w) ws = w ∷ ws

module _ {A : Type 0} where
  abbrev pub receipts_of : List (Lane A) → List (List (ℕ × A))
  receipts_of ls = map (λ (l : Lane A). l.receipts) ls

  -- the writers under which something may be listed
  abbrev pub writers_in : List (Lane A) → List ℕ
  writers_in [] = []
  writers_in (l ∷ ls) = writers_with l.writer (writers_in ls)

-- how an entry of the history shows what was listed, and whose an entry is
module _ {A L : Type 0} (shown : A → L) (owner : L → ℕ) where
  abbrev pub IsShown : List L → ℕ × A → Type 0
  IsShown history r = slice_get history (r.0 - 1) ≡ Some (shown r.1)

  abbrev pub AreShown : List L → List (ℕ × A) → Type 0
  AreShown history [] = Unit {0}
  AreShown history (r ∷ rs) = IsShown history r × AreShown history rs

  abbrev pub AreOwned : ℕ → List (ℕ × A) → Type 0
  AreOwned writer [] = Unit {0}
  AreOwned writer (r ∷ rs) = (owner (shown r.1) ≡ writer) × AreOwned writer rs

  abbrev pub IsOwned : Option ℕ → List (ℕ × A) → Type 0
  IsOwned None rs = rs ≡ []
  IsOwned (Some w) rs = AreOwned w rs

  -- each worker's numbers rise behind the opening, and at each the history shows what it listed there under its writer
  abbrev pub AreLanes : ℕ → List L → List (Lane A) → Type 0
  AreLanes opening history [] = Unit {0}
  AreLanes opening history (l ∷ ls) = (Rattle.fd_shares.specs.Merging.Rise opening (length history) l.receipts × AreShown history l.receipts × IsOwned l.writer l.receipts) × AreLanes opening history ls

  -- All that the history has behind the opening, in its order, each with its worker.
  pub record Gathered (opening : ℕ) (history : List L) (lanes : List (Lane A)) : Type 0 where
    pub each : List (ℕ × (ℕ × A))
    pub history_is : history ≡ take opening history ++ map (λ (t : ℕ × (ℕ × A)). shown t.1.1) each
    pub by : (w : ℕ) → those w each ≡ lane_at w (receipts_of lanes)
