-- Lanes behind one more line.
use Rattle.std.specs.Prelude.{◌≤◌, ℕ, List, [], ◌∷◌, ◌++◌, length}
use Rattle.fd_script.specs.Lines.{Task, Said, Silent, DatasetIs, LaneBegins, Asks, MessagesFollow, Unknown}
use Rattle.fd_script.specs.Grammar.{Group}

-- a step of the last lane
unfoldable pub onto_last : ℕ → Task → List Group → List Group
onto_last n task [] = []
onto_last n task (g ∷ []) = record g { steps = g.steps ++ (n, task) ∷ [] } ∷ []
onto_last n task (g ∷ h ∷ gs) = g ∷ onto_last n task (h ∷ gs)

-- the lanes behind a line that says this
abbrev pub after_said : ℕ → Said → List Group → List Group
after_said n (LaneBegins name pairs) gs = gs ++ record { name = name; pairs = pairs; steps = [] } ∷ []
after_said n (Asks task) gs = onto_last n task gs
after_said n Silent gs = gs
after_said n (DatasetIs text) gs = gs
after_said n MessagesFollow gs = gs
after_said n Unknown gs = gs

-- the pairs of a lane aren't longer than a script
abbrev pub IsShort : Said → Type 0
IsShort (LaneBegins name pairs) = length pairs ≤ 1048576
IsShort (Asks task) = Unit {0}
IsShort Silent = Unit {0}
IsShort (DatasetIs text) = Unit {0}
IsShort MessagesFollow = Unit {0}
IsShort Unknown = Unit {0}
