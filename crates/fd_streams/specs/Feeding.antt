-- How a piece of an input goes to a splitter.
use Rattle.std.specs.Prelude.{◌≡◌, ◌<◌, ◌≤◌, ◌+◌, ℕ, Bool, true, false, List, [], length, Option, Result, Ok, Err}
use Rattle.fd_io.specs.Streams.{Gives, IsAtEnd}
use Rattle.fd_sections.specs.Progress.{Progress}
use Rattle.fd_sections.specs.Splitting.{fed}
use Rattle.fd_split.specs.Limits.{input_limit}
use Rattle.fd_split.specs.declared.refusal.Refusal.TheVariants as refusals
use Rattle.fd_streams.specs.declared.feeding.Stop.{Stop}
use Rattle.fd_streams.specs.declared.feeding.Stop.TheVariants as stops

-- a piece within the limit came, and was fed
pub record Came (p q : Progress) (left after : Option (List ℕ)) : Type 0 where
  pub piece : List ℕ
  pub some : 0 < length piece
  pub few : p.fed + length piece ≤ input_limit
  pub gives : Gives left after piece
  pub is_fed : q ≡ fed p piece

-- the input is at its end
pub record Ended (p q : Progress) (left after : Option (List ℕ)) : Type 0 where
  pub end : IsAtEnd left
  pub gives : Gives left after []
  pub kept : q ≡ p

-- the limit was fed, and a piece came behind it
pub record Exceeds (p : Progress) (left after : Option (List ℕ)) : Type 0 where
  pub full : p.fed ≡ input_limit
  pub piece : List ℕ
  pub some : 0 < length piece
  pub gives : Gives left after piece

-- What a splitter that was at p was fed of an input that had these octets left; it is at q then. It is where it was unless a piece came.
abbrev pub IsFed : {X : Type 0} → Progress → Progress → Option (List ℕ) → Option (List ℕ) → Result Bool (Stop X) → Type 0
IsFed p q left after (Ok true) = Came p q left after
IsFed p q left after (Ok false) = Ended p q left after
IsFed p q left after (Err (stops.Fault fault)) = q ≡ p
IsFed p q left after (Err (stops.Refused refusal)) = (refusal ≡ refusals.Input) × Exceeds p left after
IsFed p q left after (Err stops.NoMemory) = q ≡ p
