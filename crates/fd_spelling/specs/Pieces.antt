-- Texts cut at a byte.
use Rattle.std.specs.Prelude.{ℕ, List, [], Option, Some, None, ◌==◌}
use Rattle.std.specs.List.{slice_split}

-- the pieces of a text between these bytes
abbrev pub pieces : ℕ → List ℕ → List (List ℕ)
pieces mark text = slice_split (λ b. b == mark) text

-- the pieces of what stands behind one of them, if it does
abbrev pub pieces_behind : ℕ → Option (List ℕ) → List (List ℕ)
pieces_behind mark None = []
pieces_behind mark (Some text) = pieces mark text
