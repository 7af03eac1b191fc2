-- A second `split` of what one has written.
use Rattle.std.specs.Prelude.{◌≡◌, ◌≤◌, ℕ, List, length, Option, Some}
use Rattle.fd_disk.specs.Folders.{Holdings}
use Rattle.fd_words.specs.declared.command.Command.TheVariants as commands
use Rattle.fd_stored.specs.declared.status.Status.TheVariants.{Done}
use Rattle.fd_split.specs.Limits.{input_limit}
use Rattle.fd_outcome.specs.Outcome.{Outcome, outcome}
use Rattle.fd_outcome.specs.Splitting.{octets_of, split_line, split_of}

-- what `split` writes of the input, be it refused behind that or not
abbrev pub written : List ℕ → List ℕ
written input = octets_of (split_of input).fields

-- the octets, as many messages as the input has fields, and no octets skipped
abbrev pub same_again : List ℕ → Outcome
same_again input = record { output = written input; report = split_line (length (split_of input).fields) 0; status = Done }

-- Where what was written isn't longer than an input may be, a second `split` writes the same octets.
pub record SplitsAgain (input : List ℕ) : Type 0 where
  pub again : (h : Holdings) (names : List (List ℕ)) → length (written input) ≤ input_limit → outcome commands.Split h names (written input) ≡ Some (same_again input)
