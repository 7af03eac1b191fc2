-- Tables that answer one over the other.
use Rattle.std.specs.Prelude.{◌≡◌, ℕ, List, [], ◌∷◌, ◌++◌}
use Rattle.fd_entries.specs.declared.batch.Pair.{Pair}
use Rattle.fd_entries.specs.Batches.{newest, or_older}

-- The batches of tables, the nearest table first, as those of one table: the batches of the nearest stand last, so that they
-- are the newest.
abbrev pub laid : {A : Type 0} → List (List A) → List A
laid [] = []
laid (t ∷ ts) = laid ts ++ t

-- what the nearest table has of a key is the answer, and where it has nothing, what the others have
abbrev pub NearestFirst : Type 0
NearestFirst = (t : List (List Pair)) (ts : List (List (List Pair))) (key : List ℕ) → newest (laid (t ∷ ts)) key ≡ or_older (newest t key) (newest (laid ts) key)
