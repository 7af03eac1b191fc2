-- The datasets that have tables.
use Rattle.std.specs.Prelude.{◌≡◌, ◌⊎◌, ℕ, true, false, List, [], ◌∷◌, ◌++◌, filter, length, map}
use Rattle.fd_disk.specs.Folders.{Holdings}
use Rattle.fd_schema.specs.declared.place.Place.{Place}
use Rattle.fd_schema.specs.Reading.{seen_place}
use Rattle.fd_stored.specs.Distinct.{count_distinct, is_among}
use Rattle.fd_stored.specs.Store.{has_table}

-- the datasets of places
abbrev pub datasets_in : List Place → List (List ℕ)
datasets_in places = map (λ p. (seen_place p).dataset) places

-- The names are those of the datasets that have a table, each once.
pub record AreTables (h : Holdings) (datasets names : List (List ℕ)) : Type 0 where
  pub same : (name : List ℕ) → is_among names name ≡ is_among (filter (has_table h) datasets) name
  pub count : length names ≡ count_distinct (filter (has_table h) datasets)

-- the name was added, where it has a table and wasn't among the names
abbrev pub MayAdd : Holdings → List (List ℕ) → List ℕ → List (List ℕ) → Type 0
MayAdd h names name after =
    ((is_among names name ≡ false) × (has_table h name ≡ true) × (after ≡ names ++ name ∷ []))
    ⊎ (((is_among names name ≡ true) ⊎ (has_table h name ≡ false)) × (after ≡ names))

-- ---- whatever the store tells

-- the names are some of the datasets, each once
pub record AreSome (datasets names : List (List ℕ)) : Type 0 where
  pub within : (name : List ℕ) → is_among names name ≡ true → is_among datasets name ≡ true
  pub apart : count_distinct names ≡ length names

-- the name was added, and wasn't among the names; or they are as before
abbrev pub MayNote : List (List ℕ) → List ℕ → List (List ℕ) → Type 0
MayNote names name after = ((is_among names name ≡ false) × (after ≡ names ++ name ∷ [])) ⊎ (after ≡ names)
