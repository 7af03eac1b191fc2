-- What layers answer: each key by the nearest layer that has it.
use Rattle.std.specs.Prelude.{◌≡◌, ◌<◌, ℕ, List, map, Some, slice_get}
use Rattle.std.specs.List.{AllZip}
use Rattle.fd_entries.specs.declared.batch.Pair.{Pair}
use Rattle.fd_segment.specs.declared.fault.Damage.{Damage}
use Rattle.fd_segment.specs.Held.{Standing}
use Rattle.fd_dataset.specs.Listed.{listing}
use Rattle.fd_retriever.specs.declared.fault.Got.{Got}
use Rattle.fd_retriever.specs.declared.fault.Got.TheVariants.{Found, Miss}
use Rattle.fd_retriever.specs.Answers.{AllSay, SomeUntold, StandsAmong, Tells}

-- the segments of each layer stand for the table in its place
abbrev pub AllTell : List (List Standing) → List (List (List Pair)) → Type 0
AllTell layers tables = AllZip (λ ss t. Tells (map listing ss) t) layers tables

-- a layer with what holds of it
abbrev pub SomeLayer : List (List Standing) → (ℕ → List Standing → Type 0) → Type 0
SomeLayer layers P = (i : ℕ) × (ss : List Standing) × (slice_get layers i ≡ Some ss) × P i ss

-- what holds of each layer that is nearer than the one with this number
abbrev pub EachNearer : List (List Standing) → ℕ → (List Standing → Type 0) → Type 0
EachNearer layers i P = (j : ℕ) (ss : List Standing) → j < i → slice_get layers j ≡ Some ss → P ss

-- what holds of each layer
abbrev pub EachLayer : List (List Standing) → (List Standing → Type 0) → Type 0
EachLayer layers P = (j : ℕ) (ss : List Standing) → slice_get layers j ≡ Some ss → P ss

-- What the indexes of the segments say of a key: those of one layer that it has so many bytes, and those of each nearer layer that
-- it isn't there; or those of each layer that it isn't there.
abbrev pub LayersSay : List (List Standing) → List ℕ → Got → Type 0
LayersSay layers key (Found n) = SomeLayer layers (λ i ss. AllSay ss key (Found n) × EachNearer layers i (λ tt. AllSay tt key Miss))
LayersSay layers key Miss = EachLayer layers (λ ss. AllSay ss key Miss)

-- the damage stands in the files of a segment of one of the layers
abbrev pub StandsInLayer : List (List Standing) → List ℕ → Damage → Type 0
StandsInLayer layers key d = SomeLayer layers (λ i ss. StandsAmong ss key d)

-- a segment of one of the layers stands for no batch
abbrev pub SomeLayerUntold : List (List Standing) → Type 0
SomeLayerUntold layers = SomeLayer layers (λ i ss. SomeUntold (map listing ss))
