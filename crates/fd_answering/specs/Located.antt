-- The bytes of a request's keys, where these are located.
use Rattle.std.specs.Prelude.{◌≡◌, ℕ, List, length, take, drop, Option, Some, None, slice_get, slice_index_or}
use Rattle.fd_key.specs.Pairs as keys
use Rattle.fd_retriever.specs.Kept.{IsNumbered}
use Rattle.fd_segment.specs.Held.{Standing}
use Rattle.fd_outcome.specs.Asking.{Answer}
use Rattle.fd_ahead.specs.declared.located.Located.{Located}
use Rattle.fd_ahead.specs.Places.{AreIn, Open}

-- These are the bytes where a key is located.
pub record StandsAt (os : List Open) (bytes : Option (List ℕ)) (l : Located) : Type 0 where
  pub dataset : Open
  pub at : slice_get os l.number ≡ Some dataset
  pub segment : Standing
  pub numbered : IsNumbered dataset.shown l.spot.number segment
  pub fields : List ℕ
  pub told : segment.files.fields ≡ Some fields
  pub is : bytes ≡ Some (take l.spot.len (drop l.spot.at fields))

-- The same, or the key isn't located and has none.
abbrev pub IsAt : List Open → Option (List ℕ) → Option Located → Type 0
IsAt os bytes None = bytes ≡ None
IsAt os bytes (Some l) = StandsAt os bytes l

-- The answers of these keys, in their order, are what stands where the keys are located.
pub record AreAt (os : List Open) (ks : List (List keys.Pair)) (xs : List Answer) (located : List (Option Located)) : Type 0 where
  pub long : length xs ≡ length ks
  pub each : (k : ℕ) (key : List keys.Pair) → slice_get ks k ≡ Some key
      → (found : Option (List ℕ)) × (slice_get xs k ≡ Some (record { key = key; found = found })) × ((d : Option Located) → IsAt os found (slice_index_or located k d))

-- Each of these keys has its place, or none, and each place lies in one of the datasets.
pub record AreLocatedIn (os : List Open) (ks : List (List keys.Pair)) (located : List (Option Located)) : Type 0 where
  pub count : length located ≡ length ks
  pub within : AreIn os located
