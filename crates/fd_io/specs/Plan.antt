-- Which calls of an object in memory are planned to fail. Calls count from 1.
use Rattle.std.specs.Prelude.{ℕ, ◌+◌, ◌-◌, ◌^◌, ◌==◌, min, Bool, List}
use Rattle.std.specs.List.{list_any}

-- a count that stands still at its highest
abbrev pub raised : ℕ → ℕ
raised count = min (count + 1) (2 ^ 64 - 1)

-- the call after so many is in the plan
abbrev pub fails_next : List ℕ → ℕ → Bool
fails_next plan calls = list_any (λ n. n == raised calls) plan
