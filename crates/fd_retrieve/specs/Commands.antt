-- The commands that answer a request: `retrieve`, and `retrieve` over layers.
use Rattle.std.specs.Prelude.{◌≡◌, ◌≤◌, ℕ, IfSome, true, List, [], All, option_map, Option, Some, None}
use Rattle.fd_disk.specs.Folders.{Holdings, WhereTold}
use Rattle.fd_key.specs.Pairs as keys
use Rattle.fd_words.specs.declared.command.Command.{Command}
use Rattle.fd_words.specs.declared.command.Command.TheVariants as commands
use Rattle.fd_outcome.specs.Asking.{Answer}
use Rattle.fd_stored.specs.Distinct.{is_among}
use Rattle.fd_outcome.specs.Ends.{Opens}
use Rattle.fd_outcome.specs.Objects.{IsCalm, Object}
use Rattle.fd_outcome.specs.Outcome.{answered, answered_early, early, outcome}
use Rattle.fd_stored.specs.Store.{IsLookedThrough}
use Rattle.fd_retrieve.specs.Open.{IsOpenIn, Open, names_of}

-- `retrieve`, over these layers where there are any
abbrev pub retrieving : List ℕ → Option (List (List keys.Pair)) → ℕ → Command
retrieving root None workers = commands.Retrieve root workers
retrieving root (Some layers) workers = commands.RetrieveOver root layers workers

-- These are the answers that the command gives, where none of the datasets is damaged, and these datasets are open, all of
-- which it opens.
pub record IsReadyFor (command : Command) (h : Holdings) (input : List ℕ) (os : List Open) (o : Option (List Answer)) : Type 0 where
  pub outcome_is : (names : List (List ℕ)) → outcome command h names input ≡ option_map answered o
  pub early_is : (names : List (List ℕ)) → early command h names input ≡ answered_early o
  pub each : All (IsOpenIn h) os
  pub opens : (names : List (List ℕ)) (n : List ℕ) → is_among (names_of os) n ≡ true → Opens command h names input n

-- The same stands ready, which was made so out of a store and an input: all of the input was read without a fault, and
-- the store, whose count of faults was m and is n, was looked through.
pub record Begins (command : Command) (before now : Option Holdings) (m n : ℕ) (input : Object (List ℕ)) (os : List Open) (o : Option (List Answer)) : Type 0 where
  pub ready : IfSome before (λ h. IfSome input.before (λ octets. IsReadyFor command h octets os o))
  pub looks : WhereTold before now IsLookedThrough
  pub later : m ≤ n
  pub calm : IsCalm input
  pub read : IfSome input.before (λ octets. input.now ≡ Some [])
