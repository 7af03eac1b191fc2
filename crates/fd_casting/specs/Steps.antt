-- The steps of a script as they stand in its lines.
use Rattle.std.specs.Prelude.{◌≤◌, ℕ, List, [], ◌∷◌, ◌++◌, length, All}
use Rattle.fd_sections.specs.Message.{Sections, IsMessage}
use Rattle.fd_key.specs.Pairs as keys
use Rattle.fd_script.specs.declared.script.Lane.{Lane}
use Rattle.fd_script.specs.declared.script.Step.{Step}

-- a step, with the pairs that its lane gives and the line that it stands in
pub record Posed : Type 0 where
  pub given : List keys.Pair
  pub step : Step
  pub line : ℕ

-- the steps of a lane, each with its line
abbrev pub posed : List keys.Pair → List Step → List ℕ → List Posed
posed given [] lines = []
posed given (s ∷ steps) [] = []
posed given (s ∷ steps) (n ∷ lines) = record { given = given; step = s; line = n } ∷ posed given steps lines

-- the steps of all lanes, lane by lane
abbrev pub all_posed : List Lane → List Posed
all_posed [] = []
all_posed (l ∷ lanes) = posed l.given l.steps l.lines ++ all_posed lanes

-- there is a line for each step of the lane
abbrev pub HasLines : Lane → Type 0
HasLines l = length l.steps ≤ length l.lines

-- each of these is a whole message
abbrev pub AreMessages : List (List ℕ) → Type 0
AreMessages messages = All (λ (m : List ℕ). (s : Sections) × IsMessage m s) messages
