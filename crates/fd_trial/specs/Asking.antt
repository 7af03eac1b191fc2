-- A trial that has stored its messages, and asks for their keys.
use Rattle.std.specs.Prelude.{◌≡◌, ℕ, List, Option, None, Ok}
use Rattle.fd_disk.specs.Folders.{Holdings, WhereTold}
use Rattle.fd_schema.specs.Rules.{Rule}
use Rattle.fd_stored.specs.Archiving.{pairs_for, taken}
use Rattle.fd_outcome.specs.Ends.{IsPlanted}
use Rattle.fd_outcome.specs.Outcome.{generated_messages}
use Rattle.fd_stored.specs.Store.{GrowsBy}
use Rattle.fd_outcome.specs.Trying.{trial_given, trial_rules}

-- There was a schema, or that of a trial was planted, with these rules, and then all messages were stored.
pub record IsTried (workers : ℕ) (rules : List Rule) (count : ℕ) (h i : Holdings) : Type 0 where
  pub middle : Holdings
  pub planted : IsPlanted h middle
  pub ruled : trial_rules h.schema ≡ Ok rules
  pub grows : GrowsBy workers (pairs_for (taken rules trial_given (generated_messages count)).stored) middle i

-- no message was refused
pub record Begins (workers : ℕ) (rules : List Rule) (count : ℕ) (start now : Option Holdings) : Type 0 where
  pub none : (taken rules trial_given (generated_messages count)).refusal ≡ None
  pub tried : WhereTold start now (IsTried workers rules count)
