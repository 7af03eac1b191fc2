-- What was found so far, layer by layer.
use Rattle.std.specs.Prelude.{◌≡◌, ℕ, List, [], ◌∷◌, map, Option, Some, None, IfSome, option_map}
use Rattle.std.specs.List.{AllZip}
use Rattle.fd_entries.specs.declared.batch.Pair.{Pair}
use Rattle.fd_segment.specs.Held.{Standing}
use Rattle.fd_dataset.specs.Listed.{listing}
use Rattle.fd_retriever.specs.Answers.{Tells}
use Rattle.fd_retriever.specs.declared.spot.Spot.{Spot}
use Rattle.fd_finding.specs.Spots.{AllSayOf, IsAnswer, IsWithin}
use Rattle.fd_overlay.specs.declared.spot.LayerSpot.{LayerSpot}
use Rattle.fd_overlay.specs.Layers.{EachNearer}
use Rattle.fd_overlay.specs.Spots.{IsNearest}

-- what a search of one layer found of a key
pub record FoundIn (ss : List Standing) (key : List ℕ) (o : Option Spot) : Type 0 where
  pub says : AllSayOf ss key o
  pub answer : (t : List (List Pair)) → Tells (map listing ss) t → IsAnswer ss t key o
  pub within : IfSome o (IsWithin ss)

-- the keys of which no spot is known
abbrev pub unfound : {A : Type 0} → List A → List (Option LayerSpot) → List A
unfound [] os = []
unfound (k ∷ ks) [] = []
unfound (k ∷ ks) (Some p ∷ os) = unfound ks os
unfound (k ∷ ks) (None ∷ os) = k ∷ unfound ks os

abbrev pub in_layer : ℕ → Option Spot → Option LayerSpot
in_layer n o = option_map (λ s. record { layer = n; spot = s }) o

-- the spots with those that were found of the others in the layer with this number, in their order
abbrev pub merged : ℕ → List (Option LayerSpot) → List (Option Spot) → List (Option LayerSpot)
merged n [] found = []
merged n (Some p ∷ os) found = Some p ∷ merged n os found
merged n (None ∷ os) [] = None ∷ merged n os []
merged n (None ∷ os) (f ∷ fs) = in_layer n f ∷ merged n os fs

-- what is known of a key once the first layers, so many, were searched
abbrev pub SearchedTo : List (List Standing) → ℕ → List ℕ → Option LayerSpot → Type 0
SearchedTo layers n key (Some p) = IsNearest FoundIn layers key p
SearchedTo layers n key None = EachNearer layers n (λ ss. FoundIn ss key None)

-- what a search of the layer with this number makes of the spots
pub record SearchesMore (ss : List Standing) (n : ℕ) (keys : List (List ℕ)) (before after : List (Option LayerSpot)) : Type 0 where
  pub found : List (Option Spot)
  pub each : AllZip (FoundIn ss) (unfound keys before) found
  pub merged_is : after ≡ merged n before found
