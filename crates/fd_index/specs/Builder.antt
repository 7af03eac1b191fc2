-- What a builder answers.
use Rattle.std.specs.Prelude.{◌≡◌, ℕ, Bool, ◌||◌, ◌&&◌, nat_lt, nat_le, if◌then◌else◌, List, [], ◌∷◌, ◌++◌, length, is_some, Result, Ok, Err}
use Rattle.fd_index.specs.declared.fault.Full.{Full}
use Rattle.fd_index.specs.Records.{Record, StandsFor, place_of}
use Rattle.fd_index.specs.Held.{Held, left_of}

-- a key that is held needs no room; a new one needs a reserved place and its bytes
abbrev pub has_room : Held → List ℕ → Bool
has_room held key = is_some (place_of key held.records) || (nat_lt (length held.records) held.keys && nat_le (length key) (left_of held))

-- the key has room, or how many are held and how many bytes are left
abbrev pub room_for : Held → List ℕ → Result (Unit {0}) Full
room_for held key = if has_room held key then Ok tt else Err (record { keys = length held.records; left = left_of held })

-- The reserved numbers stay, and the records are those of one put more, whatever the puts were.
pub record HoldsPut (old : Held) (put : Record) (new : Held) : Type 0 where
  pub keys : new.keys ≡ old.keys
  pub bytes : new.bytes ≡ old.bytes
  pub records : (puts : List Record) → StandsFor puts old.records → StandsFor (puts ++ put ∷ []) new.records
