-- The grammar of schemas over tokens, and the first place that is wrong.
--
--   schema = [ "version" "2" ] rule { rule }
--   rule   = "[" level "[" level "[" level "]" "]" "]"
--   level  = item { "," item }
--   item   = name | name "?" | name "=" value { "/" value }
use Rattle.std.specs.Prelude.{◌≡◌, ℕ, zero, suc, ◌+◌, Bool, false, not, ◌&&◌, ◌||◌, List, [], ◌∷◌, ◌++◌, codes, length, take, drop, nat_lt, nat_le, ◌==◌, if◌then◌else◌, Option, Some, None, Result, Ok, Err}
use Rattle.std.specs.List.{list_any, prefix_len}
use Rattle.std.specs.Str.{bytes_eq}
use Rattle.fd_spelling.specs.Names.{is_name, is_name_byte, is_value, is_value_byte}
use Rattle.fd_spelling.specs.Texts.{spelled}
use Rattle.fd_schema.specs.declared.rule.Level.{Level}
use Rattle.fd_schema.specs.declared.rule.Level.TheVariants.{Dataset, Index, Datum}
use Rattle.fd_schema.specs.declared.rule.Version.{Version}
use Rattle.fd_schema.specs.declared.rule.Version.TheVariants.{One, Two}
use Rattle.fd_tokens.specs.Tokens.{Piece, Part, is_token, parts, tokens}
use Rattle.fd_schema.specs.Plain.{plain}
use Rattle.fd_schema.specs.Rules.{Want, Needed, Optional, OneOf, Item, same_level, has_name, has_meaning, Rule}

-- the marks of schemas
abbrev pub marks : List ℕ
marks = codes "[],/=?"

-- what is wrong at a place
pub data Wrong : Type 0 where
  TooLong : Wrong
  Byte : Wrong
  Name : Wrong
  Value : Wrong
  Twice : (name : List ℕ) → Wrong
  Depth : Wrong
  NoneRequired : Wrong
  TooMany : (count : ℕ) → Wrong
  OtherVersion : Wrong
  End : Wrong
  Empty : Wrong

pub record Fault : Type 0 where
  pub at : ℕ
  pub kind : Wrong

infixl 10 ◌>>=◌
abbrev pub ◌>>=◌ : {A B : Type 0} → Result A Fault → (A → Result B Fault) → Result B Fault
(Ok x) >>= f = f x
(Err e) >>= f = Err e

abbrev pub wrong : {A : Type 0} → ℕ → Wrong → Result A Fault
wrong at kind = Err (record { at = at; kind = kind })

-- something is wanted, and this stands there: a byte, or the end of the text
abbrev pub absent : {A : Type 0} → Piece → Result A Fault
absent stop = wrong stop.at (if length stop.text == 0 then End else Byte)

-- each part read in turn, where what a part is may depend on what came before it
unfoldable pub each_of : {A : Type 0} → (List A → Part → Result A Fault) → List A → List Part → Result (List A) Fault
each_of read before [] = Ok before
each_of read before (p ∷ ps) = do
  x ← read before p
  each_of read (before ++ x ∷ []) ps

-- ---- values

abbrev pub begins_value : List ℕ → Bool
begins_value [] = false
begins_value (b ∷ bs) = is_value_byte b

-- a value as it stands
abbrev pub plain_value : List ℕ → Option (List ℕ)
plain_value text = if is_value text then Some text else None

-- A value in a schema of this version: in its one spelling, where the name has a meaning.
abbrev pub spelled_in : Version → List ℕ → List ℕ → Option (List ℕ)
spelled_in version name text = if has_meaning version name then spelled name text else plain_value text

abbrev pub value_or : Option (List ℕ) → ℕ → List Piece → Result (List ℕ) Fault
value_or None at others = wrong at Value
value_or (Some value) at [] = Ok value
value_or (Some value) at (u ∷ us) = wrong u.at Byte

-- one token, which is a value of the name
unfoldable pub value_of : Version → List ℕ → Piece → List Piece → Result (List ℕ) Fault
value_of version name stop [] = absent stop
value_of version name stop (t ∷ ts) = if begins_value t.text then value_or (spelled_in version name t.text) t.at ts else wrong t.at Byte

-- values with slashes between them
abbrev pub value_in : Version → List ℕ → List (List ℕ) → Part → Result (List ℕ) Fault
value_in version name before p = value_of version name p.stop p.tokens

abbrev pub values_of : Version → List ℕ → Piece → List Piece → Result (List (List ℕ)) Fault
values_of version name stop ts = each_of (value_in version name) [] (parts 47 stop ts)

-- ---- items

-- The name that a token is, where the rule has these items before it. At the name's first byte what is no name comes before a
-- name that the rule has, and that before a name too many.
unfoldable pub name_of : List Item → Piece → Result (List ℕ) Fault
name_of before t =
    let n = prefix_len is_name_byte t.text in
    if n == 0 then wrong t.at Byte
    else if not (is_name (take n t.text)) then wrong t.at Name
    else if has_name before (take n t.text) then wrong t.at (Twice (take n t.text))
    else if nat_le 32 (length before) then wrong t.at (TooMany 33)
    else if nat_lt n (length t.text) then wrong (t.at + n) Byte
    else Ok (take n t.text)

abbrev pub nothing_behind : List Piece → Result Want Fault
nothing_behind [] = Ok Optional
nothing_behind (u ∷ us) = wrong u.at Byte

-- what stands behind the name
unfoldable pub want_of : Version → List ℕ → Piece → List Piece → Result Want Fault
want_of version name stop [] = Ok Needed
want_of version name stop (t ∷ ts) =
    if is_token 63 t then nothing_behind ts
    else if is_token 61 t then (values_of version name stop ts >>= λ vs. Ok (OneOf vs))
    else wrong t.at Byte

unfoldable pub item_of : Version → Level → List Item → Piece → List Piece → Result Item Fault
item_of version level before stop [] = absent stop
item_of version level before stop (t ∷ ts) = do
  name ← name_of before t
  want ← want_of version name stop ts
  Ok (record { level = level; name = name; want = want })

abbrev pub item_in : Version → Level → List Item → Part → Result Item Fault
item_in version level before p = item_of version level before p.stop p.tokens

-- the items of a rule before, and those of a level, with commas between them
abbrev pub items_of : Version → Level → List Item → Piece → List Piece → Result (List Item) Fault
items_of version level before stop ts = each_of (item_in version level) before (parts 44 stop ts)

-- ---- rules

abbrev pub is_bracket : Piece → Bool
is_bracket t = is_token 91 t || is_token 93 t

abbrev pub bracket_place : List Piece → ℕ
bracket_place ts = prefix_len (λ t. not (is_bracket t)) ts

-- what stands before the first bracket, and from it on
abbrev pub inside : List Piece → List Piece
inside ts = take (bracket_place ts) ts

abbrev pub behind : List Piece → List Piece
behind ts = drop (bracket_place ts) ts

-- the token that stands first, or the end
abbrev pub front : List Piece → Piece → Piece
front [] end = end
front (t ∷ ts) end = t

-- the items of a level up to a bracket; a level of no items closes at once
unfoldable pub level_of : Version → Level → List Item → Piece → List Piece → Result (List Item) Fault
level_of version level before end ts =
    if length (inside ts) == 0 && is_token 93 (front (behind ts) end)
    then Ok before
    else items_of version level before (front (behind ts) end) (inside ts)

-- a level lies inside: `[`, and the tokens behind it
abbrev pub opened : Piece → List Piece → Result (List Piece) Fault
opened end [] = wrong end.at End
opened end (t ∷ ts) = if is_token 91 t then Ok ts else wrong t.at Depth

-- a name that a key must have
abbrev pub is_required : Want → Bool
is_required Optional = false
is_required Needed = not false
is_required (OneOf values) = not false

abbrev pub has_required : Level → List Item → Bool
has_required level items = list_any (λ i. same_level i.level level && is_required i.want) items

-- a level closes: `]`, or what is wrong where something else stands, and the tokens behind it
abbrev pub closed : Wrong → Level → List Item → Piece → List Piece → Result (List Piece) Fault
closed otherwise level items end [] = wrong end.at End
closed otherwise level items end (t ∷ ts) =
    if not (is_token 93 t) then wrong t.at otherwise
    else if has_required level items then Ok ts
    else wrong t.at NoneRequired

-- a rule behind its first bracket, and the tokens behind it
unfoldable pub rule_of : Version → Piece → List Piece → Result (Rule × List Piece) Fault
rule_of version end ts = do
  dataset ← level_of version Dataset [] end ts
  second ← opened end (behind ts)
  index ← level_of version Index dataset end second
  third ← opened end (behind second)
  datum ← level_of version Datum index end third
  after_datum ← closed Depth Datum datum end (behind third)
  after_index ← closed Byte Index datum end after_datum
  after_dataset ← closed Byte Dataset datum end after_index
  Ok (record { version = version; items = datum }, after_dataset)

-- the rules before, and at most so many more
unfoldable pub rules_of : ℕ → Version → Piece → List Rule → List Piece → Result (List Rule) Fault
rules_of zero version end before [] = Ok before
rules_of zero version end before (t ∷ ts) = wrong t.at (if is_token 91 t then TooMany 257 else Byte)
rules_of (suc left) version end before [] = Ok before
rules_of (suc left) version end before (t ∷ ts) =
    if is_token 91 t
    then (rule_of version end ts >>= λ r. rules_of left version end (before ++ r.0 ∷ []) r.1)
    else wrong t.at Byte

abbrev pub some_rule : ℕ → List Rule → Result (List Rule) Fault
some_rule end [] = wrong end Empty
some_rule end (r ∷ rs) = Ok (r ∷ rs)

-- ---- the version

-- a token as it is written in the text, where upper-case letters differ from lower-case ones
abbrev pub written : List ℕ → Piece → List ℕ
written text t = take (length t.text) (drop t.at text)

-- the version behind the word `version`, which stands at this place, and the tokens behind it
abbrev pub version_behind : ℕ → List Piece → Result (Version × List Piece) Fault
version_behind at [] = wrong at OtherVersion
version_behind at (t ∷ ts) = if bytes_eq t.text (codes "2") then Ok (Two, ts) else wrong t.at OtherVersion

-- the version of a text with these tokens, and the tokens of its rules
unfoldable pub version_of : List ℕ → List Piece → Result (Version × List Piece) Fault
version_of text [] = Ok (One, [])
version_of text (t ∷ ts) = if bytes_eq (written text t) (codes "version") then version_behind t.at ts else Ok (One, t ∷ ts)

-- ---- whole texts

-- the rules of a text that isn't too long, which may be none
unfoldable pub rules_in : List ℕ → Result (List Rule) Fault
rules_in text = do
  v ← version_of text (tokens marks 0 (plain false text))
  rules_of 256 v.0 (record { at = length text; text = [] }) [] v.1

-- the rules of a text, or the first place that is wrong
unfoldable pub schema_of : List ℕ → Result (List Rule) Fault
schema_of text = if nat_lt 65536 (length text) then wrong 0 TooLong else (rules_in text >>= λ rs. some_rule (length text) rs)

-- some text reads as these rules
abbrev pub IsSchema : List Rule → Type 0
IsSchema rules = (text : List ℕ) × (schema_of text ≡ Ok rules)
