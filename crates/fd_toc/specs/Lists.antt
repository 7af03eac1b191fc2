-- Which entries bytes list.
use Rattle.std.specs.Prelude.{◌≡◌, ◌≤◌, ◌⊎◌, ℕ, List, [], ◌∷◌, ◌++◌, length, take, Option, Some, None, Ok}
use Rattle.fd_entries.specs.declared.table.Entry.{Entry}
use Rattle.fd_entries.specs.Table.{listed}

-- exactly these entries
abbrev pub Lists : List ℕ → List Entry → List ℕ → Type 0
Lists dataset es c = listed dataset c ≡ Ok es

-- exactly these entries, or these and the one in doubt, where one is
abbrev pub ListsOrAlso : List ℕ → List Entry → Option Entry → List ℕ → Type 0
ListsOrAlso dataset es None c = Lists dataset es c
ListsOrAlso dataset es (Some e) c = Lists dataset es c ⊎ Lists dataset (es ++ e ∷ []) c

-- these entries, or these and the one in doubt, or these and the new one
abbrev pub ListsOrOneMore : List ℕ → List Entry → Option Entry → Entry → List ℕ → Type 0
ListsOrOneMore dataset es doubt e c = ListsOrAlso dataset es doubt c ⊎ Lists dataset (es ++ e ∷ []) c

-- all of a table's bytes, or the first of them, up to the gate behind the last slot or beyond it
abbrev pub IsFront : List ℕ → List ℕ → Type 0
IsFront front bytes = (front ≡ bytes) ⊎ ((4194561 ≤ length front) × (front ≡ take (length front) bytes))
