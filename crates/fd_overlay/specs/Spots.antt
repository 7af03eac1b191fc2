-- Where the newest bytes of keys stand among layers, and what damage keeps it from being told.
use Rattle.std.specs.Prelude.{◌≡◌, ℕ, List, map, take, drop, Option, Some, None, slice_get}
use Rattle.std.specs.Borrow.{Bor}
use Rattle.std.specs.List.{AllZip}
use Rattle.fd_entries.specs.declared.batch.Pair.{Pair}
use Rattle.fd_entries.specs.Batches.{newest}
use Rattle.fd_segment.specs.declared.fault.Damage.{Damage}
use Rattle.fd_segment.specs.Held.{Standing}
use Rattle.fd_dataset.specs.Listed.{listing}
use Rattle.fd_retriever.specs.Answers.{SomeUntold}
use Rattle.fd_retriever.specs.Kept.{IsNumbered}
use Rattle.fd_retriever.specs.declared.spot.Spot.{Spot}
use Rattle.fd_finding.specs.Spots.{AllSayOf, AllTold, IsWithin, StandsForSome}
use Rattle.fd_overlay.specs.declared.spot.LayerSpot.{LayerSpot}
use Rattle.fd_overlay.specs.declared.spot.FindFault.{FindFault}
use Rattle.fd_overlay.specs.declared.spot.FindFault.TheVariants as faults
use Rattle.fd_layers.specs.Tables.{laid}
use Rattle.fd_overlay.specs.Layers.{EachLayer, EachNearer}

-- the segments of each layer
abbrev pub shown : List (Bor (List Standing)) → List (List Standing)
shown layers = map (λ l. l.now) layers

-- ---- the answers

-- By the batches for which the layers' segments stand, as those of one table, a key's newest bytes are those at this spot.
pub record IsLaidAt (layers : List (List Standing)) (tables : List (List (List Pair))) (key : List ℕ) (p : LayerSpot) : Type 0 where
  pub layer : List Standing
  pub at : slice_get layers p.layer ≡ Some layer
  pub segment : Standing
  pub numbered : IsNumbered layer p.spot.number segment
  pub fields : List ℕ
  pub told : segment.files.fields ≡ Some fields
  pub bytes : newest (laid tables) key ≡ Some (take p.spot.len (drop p.spot.at fields))

-- the same, or no batch of any layer has the key
abbrev pub IsLaidAnswer : List (List Standing) → List (List (List Pair)) → List ℕ → Option LayerSpot → Type 0
IsLaidAnswer layers tables key (Some p) = IsLaidAt layers tables key p
IsLaidAnswer layers tables key None = newest (laid tables) key ≡ None

-- what holds of the spot in its layer, and of each nearer layer, in which there is none
pub record IsNearest (R : List Standing → List ℕ → Option Spot → Type 0) (layers : List (List Standing)) (key : List ℕ) (p : LayerSpot) : Type 0 where
  pub layer : List Standing
  pub at : slice_get layers p.layer ≡ Some layer
  pub here : R layer key (Some p.spot)
  pub nearer : EachNearer layers p.layer (λ ss. R ss key None)

-- the same, or what holds of each layer, in which there is no spot
abbrev pub InNearest : (List Standing → List ℕ → Option Spot → Type 0) → List (List Standing) → List ℕ → Option LayerSpot → Type 0
InNearest R layers key (Some p) = IsNearest R layers key p
InNearest R layers key None = EachLayer layers (λ ss. R ss key None)

-- What the indexes of the segments say of a key: those of one layer where it stands, and those of each nearer layer that it
-- isn't there; or those of each layer that it isn't there.
abbrev pub LayersSayOf : List (List Standing) → List ℕ → Option LayerSpot → Type 0
LayersSayOf = InNearest AllSayOf

-- the spot lies in a segment of its layer, so that its bytes can be checked and copied
pub record IsWithinLayer (layers : List (List Standing)) (p : LayerSpot) : Type 0 where
  pub layer : List Standing
  pub at : slice_get layers p.layer ≡ Some layer
  pub within : IsWithin layer p.spot

-- These spots are the only ones that what the segments' indexes say of the keys allows, where each tells its index.
abbrev pub AreTheOnlyOnes : List (List Standing) → List (List ℕ) → List (Option LayerSpot) → Type 0
AreTheOnlyOnes layers keys spots = EachLayer layers AllTold → (others : List (Option LayerSpot)) → AllZip (LayersSayOf layers) keys others → spots ≡ others

-- ---- the refusals

module _ {F : Type 0} where
  -- what holds of the number of the layer that is damaged, and of the damage
  abbrev pub OnDamaged : FindFault F → (ℕ → Damage → Type 0) → Type 0
  OnDamaged (faults.Fault f) P = Unit {0}
  OnDamaged (faults.Damaged layer damage) P = P layer damage
  OnDamaged faults.NoMemory P = Unit {0}

-- the damage stands in the files of a segment of this layer
pub record StandsInNumber (layers : List (List Standing)) (keys : List (List ℕ)) (n : ℕ) (d : Damage) : Type 0 where
  pub layer : List Standing
  pub at : slice_get layers n ≡ Some layer
  pub damage : StandsForSome layer keys d

-- a segment of this layer stands for no batch
pub record IsUntoldNumber (layers : List (List Standing)) (n : ℕ) : Type 0 where
  pub layer : List Standing
  pub at : slice_get layers n ≡ Some layer
  pub untold : SomeUntold (map listing layer)
