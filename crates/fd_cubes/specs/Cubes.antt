-- Cubes: lists of names with values, each the request of its keys. How a cube is printed, and what holds of one.
use Rattle.std.specs.Prelude.{◌≡◌, ◌<◌, ◌≤◌, ℕ, true, false, List, [], ◌∷◌, ◌++◌, length, map, codes, Some, slice_index_or}
use Rattle.std.specs.List.{All, AllPairs}
use Rattle.std.specs.declared.cmp.Ordering.{Ordering}
use Rattle.std.specs.declared.cmp.Ordering.TheVariants.{Less}
use Rattle.std.specs.Ordering.{nat_cmp}
use Rattle.std.specs.Cmp.Lexicographic.{slice_cmp}
use Rattle.fd_spelling.specs.Names.{is_name, is_value}
use Rattle.fd_key.specs.Pairs.{Pair, key_text}
use Rattle.fd_spelling.specs.Texts.{spelled}
use Rattle.fd_request.specs.Expansion.{Keyword, expand}
use Rattle.fd_request.specs.Grammar.{is_range_word}
use Rattle.fd_request.specs.Keywords.{differ_after}

-- ---- keys that requests can name

-- a name, and a value in its one spelling, which is none of the two words of ranges
pub record IsPlain (name value : List ℕ) : Type 0 where
  pub named : is_name name ≡ true
  pub valued : is_value value ≡ true
  pub again : spelled name value ≡ Some value
  pub word : is_range_word value ≡ false

-- the key as the request of itself: each name with its one value
abbrev pub alone : List Pair → List Keyword
alone key = map (λ p. record { name = p.0; values = p.1 ∷ [] }) key

-- A key that a request can name: each name comes once, each value is plain, and its text is short.
pub record IsAskable (key : List Pair) : Type 0 where
  pub once : differ_after [] (alone key) ≡ true
  pub plain : All (λ p. IsPlain p.0 p.1) key
  pub short : length (key_text key) ≤ 255

-- ---- the text of a cube

-- values behind the first, each behind a slash
abbrev pub more_values : List (List ℕ) → List ℕ
more_values [] = []
more_values (v ∷ vs) = 47 ∷ (v ++ more_values vs)

-- values with slashes between them
abbrev pub values_text : List (List ℕ) → List ℕ
values_text [] = []
values_text (v ∷ vs) = v ++ more_values vs

-- keywords as `name=v/w`, each behind a comma
abbrev pub keywords_text : List Keyword → List ℕ
keywords_text [] = []
keywords_text (k ∷ ks) = 44 ∷ (k.name ++ 61 ∷ (values_text k.values ++ keywords_text ks))

-- a cube as a request, `retrieve,name=v/w,..`
abbrev pub cube_text : List Keyword → List ℕ
cube_text ks = codes "retrieve" ++ keywords_text ks

-- ---- what holds of a cube

-- texts are ordered by their bytes
abbrev pub order : List ℕ → List ℕ → Ordering
order v w = slice_cmp nat_cmp v w

-- the one text comes before the other
abbrev pub IsBelow : List ℕ → List ℕ → Type 0
IsBelow v w = order v w ≡ Less

-- a name with one plain value or more, in byte order, none twice
pub record IsAxis (k : Keyword) : Type 0 where
  pub some : 0 < length k.values
  pub plain : All (IsPlain k.name) k.values
  pub rising : AllPairs IsBelow k.values

-- A cube: no name comes twice, each has its values, and its text, its number of keys and its keys' texts keep the limits of
-- requests.
pub record IsCube (cube : List Keyword) : Type 0 where
  pub once : differ_after [] cube ≡ true
  pub axes : All IsAxis cube
  pub size : length (cube_text cube) ≤ 65536
  pub few : length (expand cube) ≤ 262144
  pub short : All (λ key. length (key_text key) ≤ 255) (expand cube)

-- the lists that a function gives of elements, one behind another
abbrev pub gathered : {A B : Type 0} → (A → List B) → List A → List B
gathered f [] = []
gathered f (x ∷ xs) = f x ++ gathered f xs

-- the keys of cubes, those of one cube behind those of another
abbrev pub keys_of : List (List Keyword) → List (List Pair)
keys_of cubes = gathered expand cubes

-- one thing stands at one place alone
pub record AreApart {X : Type 0} (xs : List X) : Type 0 where
  pub at : (i j : ℕ) (d : X) → i < length xs → j < length xs → slice_index_or xs i d ≡ slice_index_or xs j d → i ≡ j

-- keys that a request may have: not too many, none too long, and none twice
pub record AreKeys (keys : List (List Pair)) : Type 0 where
  pub few : length keys ≤ 262144
  pub short : All (λ key. length (key_text key) ≤ 255) keys
  pub apart : AreApart keys

-- a cube, its text and its number of keys
pub record IsPrinted (cube : List Keyword) (text : List ℕ) (count : ℕ) : Type 0 where
  pub is : IsCube cube
  pub printed : text ≡ cube_text cube
  pub counted : count ≡ length (expand cube)
