-- Which datasets were dealt to.
use Rattle.std.specs.Prelude.{◌≡◌, ◌⊎◌, ℕ, List, [], ◌∷◌, ◌++◌, Contains, Some, Ok}
use Rattle.fd_schema.specs.Reading.{seen_place}
use Rattle.fd_schema.specs.declared.place.Place.{Place}
use Rattle.fd_sheets.specs.declared.sheets.Sheet.{Sheet}

-- the message has a place, in a dataset with one of these texts
abbrev pub IsKnown : List (List ℕ) → Sheet → Type 0
IsKnown names s = (place : Place) × (s.found ≡ Some (Ok place)) × Contains names (seen_place place).dataset

-- a text was noted, which was one of these already or stands behind them now
abbrev pub HasNoted : List ℕ → List (List ℕ) → List (List ℕ) → Type 0
HasNoted text before after = ((after ≡ before) × Contains before text) ⊎ (after ≡ before ++ text ∷ [])
