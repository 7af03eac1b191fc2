-- What of a script can be done, with the places of its puts.
use Rattle.std.specs.Prelude.{◌≡◌, ◌≤◌, ℕ, Bool, true, false, nat_le, List, [], ◌∷◌, length, map, slice_get, Option, Some, None}
use Rattle.fd_key.specs.Pairs as keys
use Rattle.fd_schema.specs.Rules.{Rule, Texts, file_key}
use Rattle.fd_schema.specs.Reading.{seen_place}
use Rattle.fd_schema.specs.declared.place.Place.{Place}
use Rattle.fd_request.specs.Expansion.{expand}
use Rattle.fd_script.specs.declared.script.Step.{Step}
use Rattle.fd_script.specs.declared.script.Step.TheVariants as steps
use Rattle.fd_lanes.specs.Acts.{IsPlaceOf, IsPlacedIn, message_at}
use Rattle.fd_casting.specs.Steps.{Posed}
use Rattle.fd_casting.specs.Miscasts.{HasNumber, IsElsewhere, IsFirst}
use Rattle.fd_casting.specs.declared.casting.Course.{Course}
use Rattle.fd_casting.specs.declared.fault.Miscast.{Miscast}

-- the place, if there is one
abbrev pub seen_if : Option Place → Option Texts
seen_if None = None
seen_if (Some place) = Some (seen_place place)

-- before the places, if there is one
abbrev pub before : Option Texts → List Texts → List Texts
before None places = places
before (Some t) places = t ∷ places

-- whether the place of a key is in the dataset of the text; it has one
abbrev pub IsJudged : List Rule → List ℕ → List keys.Pair → Bool → Type 0
IsJudged rules text key true = IsPlacedIn rules text key
IsJudged rules text key false = IsElsewhere rules text key

module _ (rules : List Rule) (text : List ℕ) (messages : List (List ℕ)) where
  -- The put of this message can be done at this place.
  pub record CanPut (given : List keys.Pair) (n : ℕ) (t : Texts) : Type 0 where
    pub number : HasNumber messages n
    pub place : IsPlaceOf rules (message_at messages n) given t
    pub dataset : t.dataset ≡ text
    pub key : length (file_key t) ≤ 256
    pub bytes : length (message_at messages n) ≤ 134217728

  -- A step can be done. A put has a place.
  abbrev pub Can : List keys.Pair → Step → Option Texts → Type 0
  Can given (steps.Put n) None = ⊥
  Can given (steps.Put n) (Some t) = CanPut given n t
  Can given steps.Flush None = Unit {0}
  Can given steps.Flush (Some t) = ⊥
  Can given (steps.Get request) None = (i : ℕ) (key : List keys.Pair) → slice_get (expand request) i ≡ Some key → IsPlacedIn rules text key
  Can given (steps.Get request) (Some t) = ⊥

  -- All steps can be done, and these are the places of their puts.
  abbrev pub AllCan : List Posed → List Texts → Type 0
  AllCan [] places = places ≡ []
  AllCan (p ∷ ps) places = (o : Option Texts) × (rest : List Texts) × (places ≡ before o rest) × Can p.given p.step o × AllCan ps rest

  -- the places so far, or the lowest line so far that can't be done
  abbrev pub IsSoFar : List Posed → List Place → Option (ℕ × Miscast) → Type 0
  IsSoFar ps places None = AllCan ps (map seen_place places)
  IsSoFar ps places (Some lowest) = IsFirst rules text messages ps lowest.0 lowest.1

  -- how far the steps were gone over
  abbrev pub IsCourse : List Posed → Course → Type 0
  IsCourse ps course = IsSoFar ps course.places course.lowest

-- a line no lower than the lowest one that can't be done
abbrev pub is_behind : ℕ → Option (ℕ × Miscast) → Bool
is_behind line None = false
is_behind line (Some lowest) = nat_le lowest.0 line
