-- How large a trial may be: at most 100,000 messages, and 1 to 8 workers.
use Rattle.std.specs.Prelude.{◌≤◌, ℕ}

abbrev pub IsTrialSize : ℕ → ℕ → Type 0
IsTrialSize count workers = (count ≤ 100000) × ((1 ≤ workers) × (workers ≤ 8))
