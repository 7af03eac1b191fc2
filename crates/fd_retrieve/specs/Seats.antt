-- What is found for the keys of a request, by threads that each look for some of them.
use Rattle.std.specs.Prelude.{◌≡◌, ◌<◌, ◌+◌, ℕ, List, Option, Some, None, Result, length, slice_get, slice_index_or, string_bytes, IfOk, IfErr}
use Rattle.fd_key.specs.Pairs.{Pair, key_text}
use Rattle.fd_schema.specs.declared.place.Place.{Place}
use Rattle.fd_schema.specs.Reading.{seen_place}
use Rattle.fd_schema.specs.Rules.{Rule, Texts, place_from}
use Rattle.fd_retrieve.specs.declared.asking.Unplaced.{Unplaced}
use Rattle.fd_retrieve.specs.declared.asking.Unplaced.TheVariants as causes

-- no rule admits the key, which has this text; or want of memory
abbrev pub IsUnplaced : Unplaced → List Pair → Option Texts → Type 0
IsUnplaced (causes.NoRule text) key place = (place ≡ None) × (string_bytes text ≡ key_text key)
IsUnplaced causes.NoMemory key place = Unit {0}

-- this was found for the key with this number: its place, or why it has none
pub record IsSought (rules : List Rule) (ks : List (List Pair)) (number : ℕ) (seat : Result Place Unplaced) : Type 0 where
  pub place : IfOk seat (λ p. (key : List Pair) → slice_get ks number ≡ Some key → place_from 0 rules key ≡ Some (seen_place p))
  pub refused : IfErr seat (λ e. (key : List Pair) → slice_get ks number ≡ Some key → IsUnplaced e key (place_from 0 rules key))

-- these were found for the keys, in their order
pub record AreSought (rules : List Rule) (ks : List (List Pair)) (seats : List (Result Place Unplaced)) : Type 0 where
  pub long : length seats ≡ length ks
  pub each : (i : ℕ) (d : Result Place Unplaced) → i < length ks → IsSought rules ks i (slice_index_or seats i d)

-- these were found for a share of the keys, from this number on
abbrev pub AreSoughtFrom : List Rule → List (List Pair) → ℕ → List (Result Place Unplaced) → List (Result Place Unplaced) → Type 0
AreSoughtFrom rules ks start before after = (i : ℕ) (d : Result Place Unplaced) → i < length before → IsSought rules ks (start + i) (slice_index_or after i d)
