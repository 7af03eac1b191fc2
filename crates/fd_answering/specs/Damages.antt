-- A damage of a dataset that is open.
use Rattle.std.specs.Prelude.{◌≡◌, ◌<◌, ℕ, List, length, Some, Contains, slice_get}
use Rattle.fd_segment.specs.Held.{Standing}
use Rattle.fd_segment.specs.declared.fault.Damage.{Damage}
use Rattle.fd_retriever.specs.Answers.{StandsIn}
use Rattle.fd_ahead.specs.Places.{Open}

-- the damage stands in the files of one of the segments
abbrev pub IsDamaged : List Standing → List ℕ → Damage → Type 0
IsDamaged ss key d = (s : Standing) × Contains ss s × StandsIn s.files key d

-- the same of the dataset with this number
pub record IsDamagedAt (os : List Open) (n : ℕ) (d : Damage) : Type 0 where
  pub inside : n < length os
  pub dataset : Open
  pub at : slice_get os n ≡ Some dataset
  pub key : List ℕ
  pub stands : IsDamaged dataset.shown key d
