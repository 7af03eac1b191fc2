-- Where a key stands among records whose keys rise.
use Rattle.std.specs.Prelude.{◌≡◌, ℕ, ◌<◌, ◌≤◌, true, List, length, slice_get, slice_set, is_some, Some, None, Result, Ok, Err}
use Rattle.std.specs.List.{insert}
use Rattle.fd_index.specs.Records.{Record, place_of}
use Rattle.fd_index.specs.Seen.{with_record}

-- the record at this place has the key
pub record HasKeyAt (rs : List Record) (i : ℕ) (key : List ℕ) : Type 0 where
  pub r : Record
  pub at : slice_get rs i ≡ Some r
  pub is : r.key ≡ key

-- The key's record is at this place; or none is, and the key would stand there.
abbrev pub IsPosition : List Record → List ℕ → Result ℕ ℕ → Type 0
IsPosition rs key (Ok i) = (i < length rs) × (is_some (place_of key rs) ≡ true) × HasKeyAt rs i key
    × ((at len : ℕ) → with_record (record { key = key; at = at; len = len }) rs ≡ slice_set rs i (record { key = key; at = at; len = len }))
IsPosition rs key (Err i) = (i ≤ length rs) × (place_of key rs ≡ None)
    × ((at len : ℕ) → with_record (record { key = key; at = at; len = len }) rs ≡ insert rs i (record { key = key; at = at; len = len }))
