-- A key: names and their texts, in order, each name once.
use Rattle.std.specs.Prelude.{ℕ, Bool, false, List, [], ◌∷◌, ◌++◌, Option, Some, None, if◌then◌else◌}
use Rattle.std.specs.List.{list_all}
use Rattle.std.specs.Str.{bytes_eq}

abbrev pub Pair : Type 0
Pair = List ℕ × List ℕ

-- the pairs, with this text in place of the one that the name has, or with the pair at the end
abbrev pub with_pair : List Pair → List ℕ → List ℕ → List Pair
with_pair [] name text = (name, text) ∷ []
with_pair (p ∷ ps) name text = if bytes_eq name p.0 then (p.0, text) ∷ ps else p ∷ with_pair ps name text

-- the same with a text that may be absent
abbrev pub with_pair_if : List Pair → List ℕ → Option (List ℕ) → List Pair
with_pair_if ps name None = ps
with_pair_if ps name (Some text) = with_pair ps name text

-- the text of a name
abbrev pub text_of : List Pair → List ℕ → Option (List ℕ)
text_of [] name = None
text_of (p ∷ ps) name = if bytes_eq name p.0 then Some p.1 else text_of ps name

abbrev pub is_text : List ℕ → Option (List ℕ) → Bool
is_text wanted None = false
is_text wanted (Some text) = bytes_eq text wanted

-- the key has this pair
abbrev pub has_pair : List Pair → Pair → Bool
has_pair ps q = is_text q.1 (text_of ps q.0)

-- the key has all of them
abbrev pub has_all : List Pair → List Pair → Bool
has_all ps wanted = list_all (has_pair ps) wanted

-- one pair as `name=text`
abbrev pub pair_text : Pair → List ℕ
pair_text p = p.0 ++ 61 ∷ p.1

-- what follows the first pair
abbrev pub rest_text : List Pair → List ℕ
rest_text [] = []
rest_text (p ∷ ps) = 44 ∷ pair_text p ++ rest_text ps

-- the pairs as `name=text`, joined by commas
abbrev pub key_text : List Pair → List ℕ
key_text [] = []
key_text (p ∷ ps) = pair_text p ++ rest_text ps
