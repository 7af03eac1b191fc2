-- What contracts see of a script.
use Rattle.std.specs.Prelude.{◌≡◌, ◌≤◌, ◌<◌, ◌-◌, ℕ, List, length, All, Some, slice_get}
use Rattle.fd_script.specs.declared.script.Lane.{Lane}

-- the text of its dataset, and its lanes
pub record Scripted : Type 0 where
  pub dataset : List ℕ
  pub lanes : List Lane

-- at most 8 lanes, each of at most 4,096 steps, and a line for each step
pub record IsWithin (lanes : List Lane) : Type 0 where
  pub few : length lanes ≤ 8
  pub short : All (λ (l : Lane). length l.steps ≤ 4096) lanes
  pub lines : All (λ (l : Lane). length l.lines ≡ length l.steps) lanes

-- the lane with this number has a step with this number, both from 1
pub record HasStep (s : Scripted) (lane step : ℕ) : Type 0 where
  pub lane_is : 1 ≤ lane
  pub step_is : 1 ≤ step
  pub at : Lane
  pub there : slice_get s.lanes (lane - 1) ≡ Some at
  pub within : step ≤ length at.steps

-- and it stands in this line
pub record HasLine (s : Scripted) (lane step line : ℕ) : Type 0 where
  pub at : Lane
  pub there : slice_get s.lanes (lane - 1) ≡ Some at
  pub is : slice_get at.lines (step - 1) ≡ Some line
