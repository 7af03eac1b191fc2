-- Batches of pairs, the newest pair of a key, and a plain index.
use Rattle.std.specs.Prelude.{◌≡◌, ◌+◌, ◌<◌, ◌≤◌, ◌^◌, ◌==◌, ◌&&◌, ◌||◌, ℕ, zero, suc, Bool, true, false, List, [], ◌∷◌, ◌++◌, if◌then◌else◌, length, map, take, drop, Option, Some, None, option_map}
use Rattle.std.specs.Int.{w16, w64, to_be_bytes, from_be_bytes}
use Rattle.fd_entries.specs.declared.batch.Pair.{Pair}

-- there is no pair
abbrev pub is_empty : List Pair → Bool
is_empty [] = true
is_empty (p ∷ ps) = false

-- one pair more
abbrev pub with_pair : List Pair → List ℕ → List ℕ → List Pair
with_pair pairs key bytes = pairs ++ record { key = key; bytes = bytes } ∷ []

-- the same bytes
abbrev pub same_bytes : List ℕ → List ℕ → Bool
same_bytes [] [] = true
same_bytes [] (y ∷ ys) = false
same_bytes (x ∷ xs) [] = false
same_bytes (x ∷ xs) (y ∷ ys) = (x == y) && same_bytes xs ys

abbrev pub or_older : {A : Type 0} → Option A → Option A → Option A
or_older (Some x) older = Some x
or_older None older = older

-- the bytes of the last pair with the key
abbrev pub of_batch : List Pair → List ℕ → Option (List ℕ)
of_batch [] key = None
of_batch (p ∷ ps) key = or_older (of_batch ps key) (if same_bytes p.key key then Some p.bytes else None)

-- the same in the last batch that has the key
abbrev pub newest : List (List Pair) → List ℕ → Option (List ℕ)
newest [] key = None
newest (b ∷ bs) key = or_older (newest bs key) (of_batch b key)

abbrev pub has_key : List Pair → List ℕ → Bool
has_key [] key = false
has_key (p ∷ ps) key = same_bytes p.key key || has_key ps key

-- how many keys are distinct
abbrev pub distinct : List Pair → ℕ
distinct [] = 0
distinct (p ∷ ps) = (if has_key ps p.key then 0 else 1) + distinct ps

abbrev pub total : List Pair → ℕ
total [] = 0
total (p ∷ ps) = length p.bytes + total ps

-- a field file: the bytes one after the other
abbrev pub joined : List Pair → List ℕ
joined [] = []
joined (p ∷ ps) = p.bytes ++ joined ps

-- an index: for each pair in order the key's length, the key, the place, the length
abbrev pub rows_from : ℕ → List Pair → List ℕ
rows_from at [] = []
rows_from at (p ∷ ps) = to_be_bytes w16 (length p.key) ++ p.key ++ to_be_bytes w64 at ++ to_be_bytes w64 (length p.bytes) ++ rows_from (at + length p.bytes) ps

abbrev pub rows : List Pair → List ℕ
rows b = rows_from 0 b

-- each key has at most 256 bytes
abbrev pub KeysFit : List Pair → Type 0
KeysFit [] = Unit {0}
KeysFit (p ∷ ps) = (length p.key ≤ 256) × KeysFit ps

-- a batch that a table may list
pub record IsBounded (b : List Pair) : Type 0 where
  pub keys : KeysFit b
  pub few : distinct b ≤ 65536
  pub sum : total b < 2 ^ 63
  pub index : length (rows b) < 2 ^ 63

pub record Row : Type 0 where
  pub key : List ℕ
  pub at : ℕ
  pub len : ℕ

abbrev pub row_in : ℕ → List ℕ → Row
row_in key_len bytes = record {
  key = take key_len (drop 2 bytes);
  at = from_be_bytes w64 (take 8 (drop (2 + key_len) bytes));
  len = from_be_bytes w64 (take 8 (drop (10 + key_len) bytes));
}

-- the rows that an index file reads as; the first number is no smaller than their count
abbrev pub rows_read : ℕ → List ℕ → List Row
rows_read zero bytes = []
rows_read (suc room) [] = []
rows_read (suc room) (x ∷ bytes) =
    let key_len = from_be_bytes w16 (take 2 (x ∷ bytes)) in
    row_in key_len (x ∷ bytes) ∷ rows_read room (drop (18 + key_len) (x ∷ bytes))

abbrev pub last_row : List Row → List ℕ → Option Row
last_row [] key = None
last_row (r ∷ rs) key = or_older (last_row rs key) (if same_bytes r.key key then Some r else None)

-- what a pair of files gives for a key
abbrev pub of_files : List ℕ → List ℕ → List ℕ → Option (List ℕ)
of_files index fields key = option_map (λ r. take r.len (drop r.at fields)) (last_row (rows_read (length index) index) key)

-- the pairs that a pair of files gives
abbrev pub pairs_in : List ℕ → List ℕ → List Pair
pairs_in index fields = map (λ r. record { key = r.key; bytes = take r.len (drop r.at fields) }) (rows_read (length index) index)

-- the index and the fields of a batch that a table may list
pub record HoldBatch (index fields : List ℕ) : Type 0 where
  pub batch : List Pair
  pub index_is : index ≡ rows batch
  pub fields_is : fields ≡ joined batch
  pub keys : KeysFit batch
  pub sum : total batch < 2 ^ 63
