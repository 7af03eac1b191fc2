-- Texts as tokens with their places: marks, and the longest runs of other bytes. Blanks and line ends stand between them. Which
-- bytes are marks, each reader of texts says for itself.
use Rattle.std.specs.Prelude.{ℕ, ◌+◌, Bool, false, not, ◌&&◌, ◌||◌, List, [], ◌∷◌, drop, map, ◌==◌, if◌then◌else◌, Option, Some, None}
use Rattle.std.specs.List.{list_any, prefix_len}
use Rattle.fd_tokens.specs.declared.token.Token.{Token}

-- a space, a tab or a line feed
abbrev pub is_blank : ℕ → Bool
is_blank b = (b == 32) || (b == 9) || (b == 10)

-- the byte is one of these marks
abbrev pub is_mark : List ℕ → ℕ → Bool
is_mark marks b = list_any (λ m. m == b) marks

abbrev pub is_word : List ℕ → ℕ → Bool
is_word marks b = not (is_blank b || is_mark marks b)

abbrev pub word_len : List ℕ → List ℕ → ℕ
word_len marks text = prefix_len (is_word marks) text

-- a token: its place, and its bytes
pub record Piece : Type 0 where
  pub at : ℕ
  pub text : List ℕ

abbrev pub begins_word : List ℕ → List ℕ → Bool
begins_word marks [] = false
begins_word marks (b ∷ bs) = is_word marks b

abbrev pub one : ℕ → ℕ → Piece
one at b = record { at = at; text = b ∷ [] }

-- a byte of a word joins the word that begins right behind it
abbrev pub glue : List ℕ → ℕ → ℕ → List Piece → List Piece
glue marks at b [] = one at b ∷ []
glue marks at b (t ∷ ts) =
    if t.at == at + 1 && begins_word marks t.text then record { at = at; text = b ∷ t.text } ∷ ts else one at b ∷ t ∷ ts

abbrev pub with_byte : List ℕ → ℕ → ℕ → List Piece → List Piece
with_byte marks at b ts = if is_word marks b then glue marks at b ts else (if is_blank b then ts else one at b ∷ ts)

-- the tokens of a text that begins at this place
unfoldable pub tokens : List ℕ → ℕ → List ℕ → List Piece
tokens marks at [] = []
tokens marks at (b ∷ bs) = with_byte marks at b (tokens marks (at + 1) bs)

-- the token is this mark
abbrev pub is_one : ℕ → List ℕ → Bool
is_one mark [] = false
is_one mark (b ∷ []) = b == mark
is_one mark (b ∷ c ∷ bs) = false

abbrev pub is_token : ℕ → Piece → Bool
is_token mark t = is_one mark t.text

-- tokens up to a mark, and what stands behind them: the mark, or the end of the text, which is a token without bytes
pub record Part : Type 0 where
  pub tokens : List Piece
  pub stop : Piece

abbrev pub onto : Piece → List Part → List Part
onto t [] = []
onto t (p ∷ ps) = record { tokens = t ∷ p.tokens; stop = p.stop } ∷ ps

-- the tokens cut at each such mark; behind the last part stands this
unfoldable pub parts : ℕ → Piece → List Piece → List Part
parts mark stop [] = record { tokens = []; stop = stop } ∷ []
parts mark stop (t ∷ ts) = if is_token mark t then record { tokens = []; stop = t } ∷ parts mark stop ts else onto t (parts mark stop ts)

-- how many tokens stand before the first such mark
abbrev pub mark_place : ℕ → List Piece → ℕ
mark_place mark ts = prefix_len (λ t. not (is_token mark t)) ts

-- ---- what the code's tokens are

abbrev pub view : Token → Piece
view t = record { at = t.at; text = t.text.now }

abbrev pub views : List Token → List Piece
views ts = map view ts

abbrev pub pieces_of : Option Token → List Piece
pieces_of None = []
pieces_of (Some t) = view t ∷ []

-- the parts from a place on, if there is one
abbrev pub parts_if : ℕ → Piece → List Token → Option ℕ → List Part
parts_if mark stop ts None = []
parts_if mark stop ts (Some next) = parts mark stop (views (drop next ts))
