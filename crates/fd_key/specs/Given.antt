-- Pairs that a writer gives beside those of a message.
use Rattle.std.specs.Prelude.{Option, Some, None, if◌then◌else◌, ◌+◌, ◌≡◌, ◌<◌, ◌^◌, ℕ, Bool, true, List, [], ◌∷◌, ◌++◌, length, codes, not, is_some, ◌&&◌, Result, Ok, Err}
use Rattle.std.specs.List.{list_all, list_any}
use Rattle.std.specs.Str.{bytes_eq}
use Rattle.fd_spelling.specs.Names.{lower, is_name, is_value}
use Rattle.fd_spelling.specs.Numerals.{cut, ◌>>=◌}
use Rattle.fd_spelling.specs.Pieces.{pieces}
use Rattle.fd_key.specs.Pairs.{Pair, text_of, key_text}

-- the names that messages have of their own
abbrev pub reserved_names : List (List ℕ)
reserved_names =
    codes "centre" ∷ codes "date" ∷ codes "time" ∷ codes "type" ∷ codes "param" ∷ codes "levtype" ∷ codes "levelist"
    ∷ codes "step" ∷ codes "number" ∷ codes "stat" ∷ []

abbrev pub is_reserved : List ℕ → Bool
is_reserved name = list_any (bytes_eq name) reserved_names

-- each name is reserved
abbrev pub are_reserved : List Pair → Bool
are_reserved ps = list_all (λ p. is_reserved p.0) ps

-- no name is
abbrev pub are_free : List Pair → Bool
are_free ps = list_all (λ p. not (is_reserved p.0)) ps

-- no name comes twice, nor is a name of the pairs before
abbrev pub differ_after : List Pair → List Pair → Bool
differ_after before [] = true
differ_after before (p ∷ ps) = not (is_some (text_of before p.0)) && differ_after (before ++ p ∷ []) ps

-- what holds of the pairs that a writer gives
pub record IsGiven (pairs : List Pair) : Type 0 where
  pub free : are_free pairs ≡ true
  pub differ : differ_after [] pairs ≡ true
  pub short : length (key_text pairs) < 2 ^ 31

-- why a text isn't pairs
pub data Refusal : Type 0 where
  Pair_at : (at : ℕ) → Refusal
  Clash_of : (name : List ℕ) → Refusal
  Twice_of : (name : List ℕ) → Refusal

-- a name and a value with `=` between them, in lower case
unfoldable pub plain_pair : List ℕ → Option Pair
plain_pair piece = cut 61 piece >>= λ parts. (if is_name parts.0 && is_value parts.1 then Some parts else None)

-- the pair, unless its name is reserved or came before
abbrev pub new_pair : List Pair → Option Pair → ℕ → Result Pair Refusal
new_pair before None at = Err (Pair_at at)
new_pair before (Some p) at =
    if is_reserved p.0 then Err (Clash_of p.0)
    else if is_some (text_of before p.0) then Err (Twice_of p.0)
    else Ok p

-- what comes of the value, if there is one
infixl 10 ◌and_then◌
abbrev pub ◌and_then◌ : {A B : Type 0} → Result A Refusal → (A → Result B Refusal) → Result B Refusal
(Ok x) and_then f = f x
(Err e) and_then f = Err e

-- the pairs before and that of a piece, which begins at this place
unfoldable pub with_piece : List Pair → List ℕ → ℕ → Result (List Pair) Refusal
with_piece before piece at = new_pair before (plain_pair piece) at and_then λ p. Ok (before ++ p ∷ [])

-- the pairs before, and those of the pieces, the first of which begins at this place
unfoldable pub pairs_from : ℕ → List Pair → List (List ℕ) → Result (List Pair) Refusal
pairs_from at before [] = Ok before
pairs_from at before (piece ∷ pieces) =
    with_piece before piece at and_then λ next. pairs_from (at + length piece + 1) next pieces

-- the text cut at its commas
abbrev pub pieces_of : List ℕ → List (List ℕ)
pieces_of text = pieces 44 text

-- the pairs of a text in lower case, which are joined by commas; the empty text has none
abbrev pub pairs_in : List ℕ → Result (List Pair) Refusal
pairs_in [] = Ok []
pairs_in (b ∷ bs) = pairs_from 0 [] (pieces_of (b ∷ bs))

-- the pairs that a text gives, or the first cause from left to right why it gives none
unfoldable pub given_of : List ℕ → Result (List Pair) Refusal
given_of text = pairs_in (lower text)
