-- What was found for a key, as it is taken up.
use Rattle.std.proofs.Common.{◌≡◌, ◌<◌, ℕ, List, Some, None, Ok, Err, IfOk, IfErr, length, subst, sym}
use Rattle.std.specs.Prelude.{Result, slice_get, slice_index_or, string_bytes}
use Rattle.fd_key.specs.Pairs.{Pair, key_text}
use Rattle.fd_schema.specs.declared.place.Place.{Place}
use Rattle.fd_schema.specs.Reading.{seen_place}
use Rattle.fd_schema.specs.Rules.{Rule, place_from}
use Rattle.fd_retrieve.specs.declared.asking.Unplaced.{Unplaced}
use Rattle.fd_retrieve.specs.declared.asking.Unplaced.TheVariants as causes
use Rattle.fd_retrieve.specs.Seats.{AreSought, IsSought, IsUnplaced}

module _ (rules : List Rule) (ks : List (List Pair)) (seats : List (Result Place Unplaced)) (i : ℕ) (seat : Result Place Unplaced) where
  sought : AreSought rules ks seats → i < length ks → seat ≡ slice_index_or seats i seat → IsSought rules ks i seat
  sought all within is = subst (IsSought rules ks i) (sym is) (all.each i seat within)

  pub found_place : (place : Place) → AreSought rules ks seats → i < length ks → seat ≡ slice_index_or seats i seat → seat ≡ Ok place
      → (key : List Pair) → slice_get ks i ≡ Some key → place_from 0 rules key ≡ Some (seen_place place)
  found_place place all within is ok =
      subst (λ s. IfOk s (λ p. (key : List Pair) → slice_get ks i ≡ Some key → place_from 0 rules key ≡ Some (seen_place p))) ok (sought all within is).place

  pub found_refusal : (text : _) → AreSought rules ks seats → i < length ks → seat ≡ slice_index_or seats i seat → seat ≡ Err (causes.NoRule text)
      → (key : List Pair) → slice_get ks i ≡ Some key → (place_from 0 rules key ≡ None) × (string_bytes text ≡ key_text key)
  found_refusal text all within is err =
      subst (λ s. IfErr s (λ e. (key : List Pair) → slice_get ks i ≡ Some key → IsUnplaced e key (place_from 0 rules key))) err (sought all within is).refused
