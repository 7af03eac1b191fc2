-- The grammar of requests over tokens, and the first place that is wrong.
--
--   request = verb { "," name "=" values }
--   values  = value { "/" value } | value "/" "to" "/" value [ "/" "by" "/" number ]
use Rattle.std.specs.Prelude.{ℕ, ◌+◌, Bool, not, ◌||◌, List, [], ◌∷◌, ◌++◌, codes, false, length, take, drop, map, nat_lt, ◌==◌, if◌then◌else◌, Option, Some, None, Result, Ok, Err}
use Rattle.std.specs.List.{list_any, prefix_len}
use Rattle.std.specs.Str.{bytes_eq}
use Rattle.fd_spelling.specs.Names.{is_name, is_name_byte, lower}
use Rattle.fd_tokens.specs.Tokens.{Piece, Part, onto, parts, tokens}
use Rattle.fd_spelling.specs.Texts.{spelled}
use Rattle.fd_request.specs.Expansion.{Keyword}
use Rattle.fd_request.specs.Ranges.{is_to, is_by, range_of}

-- The marks of requests. `=` is none of them, since what is given as a value goes on behind it: a keyword is cut at its first one.
abbrev pub marks : List ℕ
marks = codes ",/"

-- what is wrong at a place
pub data Wrong : Type 0 where
  TooLong : Wrong
  Verb : Wrong
  Pair : Wrong
  Repeated : (name : List ℕ) → Wrong
  Value : Wrong
  Range : Wrong
  TooMany : (count : ℕ) → Wrong
  KeyTooLong : (len : ℕ) → Wrong

pub record Fault : Type 0 where
  pub at : ℕ
  pub kind : Wrong

infixl 10 ◌>>=◌
abbrev pub ◌>>=◌ : {A B : Type 0} → Result A Fault → (A → Result B Fault) → Result B Fault
(Ok x) >>= f = f x
(Err e) >>= f = Err e

abbrev pub wrong : {A : Type 0} → ℕ → Wrong → Result A Fault
wrong at kind = Err (record { at = at; kind = kind })

-- each read in turn, where what one is may depend on those before it
unfoldable pub each_of : {A B : Type 0} → (List A → B → Result A Fault) → List A → List B → Result (List A) Fault
each_of read before [] = Ok before
each_of read before (p ∷ ps) = do
  x ← read before p
  each_of read (before ++ x ∷ []) ps

-- the place of the first token, or of what stands behind
abbrev pub front_place : Piece → List Piece → ℕ
front_place stop [] = stop.at
front_place stop (t ∷ ts) = t.at

-- the place of the first token, if there is one
abbrev pub first_place : List Piece → Option ℕ
first_place [] = None
first_place (t ∷ ts) = Some t.at

-- what is left of a token behind so many of its bytes, if anything is
abbrev pub past : ℕ → Piece → Option Piece
past n t = if nat_lt n (length t.text) then Some (record { at = t.at + n; text = drop n t.text }) else None

-- what is left of a token, and the tokens behind it
abbrev pub led : Option Piece → List Piece → List Piece
led None ts = ts
led (Some t) ts = t ∷ ts

-- ---- the verb

-- the place behind the verb where something stands, if anything does
unfoldable pub verb_of : List ℕ → Piece → List Piece → Result (Option ℕ) Fault
verb_of verb stop [] = wrong stop.at Verb
verb_of verb stop (t ∷ ts) =
    let n = prefix_len is_name_byte t.text in
    if bytes_eq (take n t.text) verb then Ok (first_place (led (past n t) ts)) else wrong t.at Verb

-- ---- values

-- A value is a token: what stands up to a blank, a comma, a slash or the end. It has the place where it begins, or that of what
-- stands there instead, and the place of the token behind it, if there is one.
pub record Word : Type 0 where
  pub at : ℕ
  pub text : List ℕ
  pub behind : Option ℕ

abbrev pub word_of : Piece → List Piece → Word
word_of stop [] = record { at = stop.at; text = []; behind = None }
word_of stop (t ∷ ts) = record { at = t.at; text = t.text; behind = first_place ts }

abbrev pub word_in : Part → Word
word_in p = word_of p.stop p.tokens

abbrev pub value_or : Option (List ℕ) → ℕ → Option ℕ → Result (List ℕ) Fault
value_or None at behind = wrong at Value
value_or (Some value) at None = Ok value
value_or (Some value) at (Some place) = wrong place Pair

-- a value in its one spelling
unfoldable pub value_of : List ℕ → Word → Result (List ℕ) Fault
value_of name w = value_or (spelled name w.text) w.at w.behind

abbrev pub value_in : List ℕ → List (List ℕ) → Word → Result (List ℕ) Fault
value_in name before w = value_of name w

abbrev pub word_texts : List Word → List (List ℕ)
word_texts ws = map (λ w. w.text) ws

abbrev pub is_range_word : List ℕ → Bool
is_range_word text = is_to text || is_by text

abbrev pub first_of_two : Option ℕ → Option ℕ → Option ℕ
first_of_two None other = other
first_of_two (Some place) other = Some place

-- the first place behind a word where something else stands
unfoldable pub behind_words : List Word → Option ℕ
behind_words [] = None
behind_words (w ∷ ws) = first_of_two w.behind (behind_words ws)

abbrev pub range_or : Option (List (List ℕ)) → ℕ → Option ℕ → Result (List (List ℕ)) Fault
range_or None at behind = wrong at Range
range_or (Some values) at None = Ok values
range_or (Some values) at (Some place) = wrong place Pair

-- The values of a name, the first of which begins at this place. Where `to` or `by` stands they are a range, which is tested
-- before the values.
unfoldable pub values_of : List ℕ → ℕ → List Word → Result (List (List ℕ)) Fault
values_of name at words =
    if list_any (λ w. is_range_word w.text) words
    then range_or (range_of name (word_texts words)) at (behind_words words)
    else each_of (value_in name) [] words

-- ---- keywords

-- the keyword has this name
abbrev pub has_name : List Keyword → List ℕ → Bool
has_name ks name = list_any (λ k. bytes_eq k.name name) ks

-- Behind a word that has something else than a slash behind it, the values are at their end: what stands further on is none
-- of them.
abbrev pub unless_behind : Option ℕ → List Word → List Word
unless_behind None ws = ws
unless_behind (Some place) ws = []

unfoldable pub up_to_behind : List Word → List Word
up_to_behind [] = []
up_to_behind (w ∷ ws) = w ∷ unless_behind w.behind (up_to_behind ws)

-- the first of the parts begins with what is left of a token
abbrev pub begun : Option Piece → List Part → List Part
begun None ps = ps
begun (Some t) ps = onto t ps

-- the words between slashes
abbrev pub words_of : Piece → Option Piece → List Piece → List Word
words_of stop rest ts = up_to_behind (map word_in (begun rest (parts 47 stop ts)))

abbrev pub begins : ℕ → List ℕ → Bool
begins b [] = false
begins b (c ∷ cs) = c == b

-- the values behind `=`: what is left of its token, and the tokens behind it
abbrev pub given : List ℕ → Piece → Option Piece → List Piece → Result (List (List ℕ)) Fault
given name stop rest ts = values_of name (front_place stop (led rest ts)) (words_of stop rest ts)

-- what stands behind a name
unfoldable pub behind_name : List ℕ → Piece → List Piece → Result (List (List ℕ)) Fault
behind_name name stop [] = wrong stop.at Pair
behind_name name stop (e ∷ ts) = if begins 61 e.text then given name stop (past 1 e) ts else wrong e.at Pair

-- the name that a token begins with, behind these keywords
unfoldable pub name_of : List Keyword → Piece → Result (List ℕ) Fault
name_of before t =
    let n = prefix_len is_name_byte t.text in
    if not (is_name (take n t.text)) then wrong t.at Pair
    else if has_name before (take n t.text) then wrong t.at (Repeated (take n t.text))
    else Ok (take n t.text)

unfoldable pub keyword_of : List Keyword → Piece → List Piece → Result Keyword Fault
keyword_of before stop [] = wrong stop.at Pair
keyword_of before stop (t ∷ ts) = do
  name ← name_of before t
  values ← behind_name name stop (led (past (length name) t) ts)
  Ok (record { name = name; values = values })

abbrev pub keyword_in : List Keyword → Part → Result Keyword Fault
keyword_in before p = keyword_of before p.stop p.tokens

-- nothing may stand behind the verb but keywords
abbrev pub behind_verb : Option ℕ → List Part → Result (List Keyword) Fault
behind_verb None ps = each_of keyword_in [] ps
behind_verb (Some place) ps = wrong place Pair

unfoldable pub request_in : List ℕ → List Part → Result (List Keyword) Fault
request_in verb [] = Ok []
request_in verb (p ∷ ps) = do
  place ← verb_of verb p.stop p.tokens
  behind_verb place ps

-- the keywords of a text, or the first place that is wrong
unfoldable pub keywords_of : List ℕ → List ℕ → Result (List Keyword) Fault
keywords_of verb text = request_in verb (parts 44 (record { at = length text; text = [] }) (tokens marks 0 (lower text)))
