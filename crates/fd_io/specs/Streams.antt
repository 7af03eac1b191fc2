-- What a source gives and a sink takes, where they tell it.
use Rattle.std.specs.Prelude.{◌≡◌, ℕ, List, [], ◌++◌, Option, Some, None}

-- A source whose bytes left are old gave these bytes, and has new left. Nothing is said where it doesn't tell.
abbrev pub Gives : Option (List ℕ) → Option (List ℕ) → List ℕ → Type 0
Gives None new bytes = Unit {0}
Gives (Some old) None bytes = ⊥
Gives (Some old) (Some new) bytes = old ≡ bytes ++ new

-- A source has nothing left, where it tells.
abbrev pub IsAtEnd : Option (List ℕ) → Type 0
IsAtEnd None = Unit {0}
IsAtEnd (Some left) = left ≡ []

-- A sink that had taken old has taken these bytes more. Nothing is said where it doesn't tell.
abbrev pub Takes : Option (List ℕ) → Option (List ℕ) → List ℕ → Type 0
Takes None new bytes = Unit {0}
Takes (Some old) None bytes = ⊥
Takes (Some old) (Some new) bytes = new ≡ old ++ bytes

-- The same for some front of the bytes.
abbrev pub TakesFront : Option (List ℕ) → Option (List ℕ) → List ℕ → Type 0
TakesFront old new bytes = (front : List ℕ) × (rest : List ℕ) × (bytes ≡ front ++ rest) × Takes old new front
