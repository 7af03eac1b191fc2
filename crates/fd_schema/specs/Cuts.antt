-- The texts of a place where they stand in one, by where the second and the third of them begin.
use Rattle.std.specs.Prelude.{ℕ, ◌≤◌, List, take, drop, slice_range}
use Rattle.std.specs.Str.{IsCharBoundary}
use Rattle.fd_schema.specs.Rules.{Texts}

abbrev pub texts_at : ℕ → List ℕ → ℕ → ℕ → Texts
texts_at rule text index datum = record { rule = rule; dataset = take index text; index = slice_range text index datum; datum = drop datum text }

-- the text may be cut there
pub record AreCut (text : List ℕ) (index datum : ℕ) : Type 0 where
  pub ordered : index ≤ datum
  pub second : IsCharBoundary text index
  pub third : IsCharBoundary text datum
