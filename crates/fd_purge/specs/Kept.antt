-- Which batches of a table are kept: those with a key that no later batch has.
use Rattle.std.specs.Prelude.{◌≡◌, ◌||◌, ◌&&◌, if◌then◌else◌, Bool, true, false, ℕ, List, [], ◌∷◌, map}
use Rattle.fd_entries.specs.declared.batch.Pair.{Pair}
use Rattle.fd_entries.specs.Batches.{newest, same_bytes}

-- the key is among these
abbrev pub is_key : List (List ℕ) → List ℕ → Bool
is_key [] key = false
is_key (k ∷ ks) key = same_bytes k key || is_key ks key

-- one of the batches has the key
abbrev pub occurs : List (List (List ℕ)) → List ℕ → Bool
occurs [] key = false
occurs (ks ∷ later) key = is_key ks key || occurs later key

-- each of these keys occurs in a later batch
abbrev pub is_masked : List (List ℕ) → List (List (List ℕ)) → Bool
is_masked [] later = true
is_masked (k ∷ ks) later = occurs later k && is_masked ks later

-- for each batch, by its keys, whether it is masked by the later ones
abbrev pub masks : List (List (List ℕ)) → List Bool
masks [] = []
masks (ks ∷ later) = is_masked ks later ∷ masks later

-- those that are not masked, in order
abbrev pub unmasked : {A : Type 0} → List Bool → List A → List A
unmasked [] xs = []
unmasked (m ∷ ms) [] = []
unmasked (m ∷ ms) (x ∷ xs) = if m then unmasked ms xs else x ∷ unmasked ms xs

-- those that are
abbrev pub masked : {A : Type 0} → List Bool → List A → List A
masked [] xs = []
masked (m ∷ ms) [] = []
masked (m ∷ ms) (x ∷ xs) = if m then x ∷ masked ms xs else masked ms xs

abbrev pub keys_of : List Pair → List (List ℕ)
keys_of b = map (λ p. p.key) b

-- A table without its masked batches.
abbrev pub kept : List (List Pair) → List (List Pair)
kept t = unmasked (masks (map keys_of t)) t

-- Each key has the newest bytes that it had.
abbrev pub KeepsNewest : Type 0
KeepsNewest = (t : List (List Pair)) (key : List ℕ) → newest (kept t) key ≡ newest t key
