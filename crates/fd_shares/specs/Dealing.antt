-- Pairs that are dealt to workers, each of which lists its own in batches.
use Rattle.std.specs.Prelude.{◌≡◌, ◌≤◌, ◌<◌, ◌+◌, ◌*◌, ◌/◌, ◌==◌, ℕ, List, [], ◌∷◌, ◌++◌, if◌then◌else◌, length, map, All}
use Rattle.fd_entries.specs.declared.batch.Pair.{Pair}
use Rattle.fd_entries.specs.Batches.{newest, of_batch, or_older}

-- a batch that was listed, with the worker that listed it
pub record Marked : Type 0 where
  pub worker : ℕ
  pub batch : List Pair

abbrev pub batches_of : List Marked → List (List Pair)
batches_of ms = map (λ (m : Marked). m.batch) ms

-- the batches that a worker listed, in their order
abbrev pub batches_by : ℕ → List Marked → List (List Pair)
batches_by w [] = []
batches_by w (m ∷ ms) = if m.worker == w then m.batch ∷ batches_by w ms else batches_by w ms

-- the pairs whose keys are dealt to a worker, in their order
abbrev pub dealt_to : (List ℕ → ℕ) → ℕ → List Pair → List Pair
dealt_to deal w [] = []
dealt_to deal w (p ∷ ps) = if deal p.key == w then p ∷ dealt_to deal w ps else dealt_to deal w ps

-- batches, one after the other
abbrev pub flat : List (List Pair) → List Pair
flat [] = []
flat (b ∷ bs) = b ++ flat bs

-- Where each worker listed exactly the pairs that are dealt to it, in their order, the newest bytes of each key are those
-- of one batch of all pairs.
abbrev pub AreAsOne : Type 0
AreAsOne = (deal : List ℕ → ℕ) (before : List (List Pair)) (marked : List Marked) (pairs : List Pair) → ((w : ℕ) → flat (batches_by w marked) ≡ dealt_to deal w pairs)
    → (key : List ℕ) → newest (before ++ batches_of marked) key ≡ or_older (of_batch pairs key) (newest before key)

-- Where each batch of a worker but one has at least 512 of the pairs that are dealt to it, the batches are at most as many
-- as the workers and one more for each 512 pairs.
abbrev pub AreFew : Type 0
AreFew = (deal : List ℕ → ℕ) (workers : ℕ) (marked : List Marked) (pairs : List Pair) → All (λ (m : Marked). m.worker < workers) marked
    → ((w : ℕ) → w < workers → 512 * length (batches_by w marked) ≤ length (dealt_to deal w pairs) + 512)
    → length (batches_of marked) ≤ workers + length pairs / 512
