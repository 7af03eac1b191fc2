-- Rules of a schema: which keys each admits, and the three texts that it makes of a key.
use Rattle.std.specs.Prelude.{ℕ, ◌+◌, ◌≤◌, length, Bool, true, false, not, ◌&&◌, ◌||◌, List, [], ◌∷◌, ◌++◌, codes, is_some, Option, Some, None, if◌then◌else◌}
use Rattle.std.specs.List.{list_all, list_any}
use Rattle.std.specs.Str.{bytes_eq}
use Rattle.fd_key.specs.Pairs.{Pair, text_of, pair_text, key_text}
use Rattle.fd_schema.specs.declared.rule.Level.{Level}
use Rattle.fd_schema.specs.declared.rule.Level.TheVariants.{Dataset, Index, Datum}
use Rattle.fd_schema.specs.declared.rule.Version.{Version}
use Rattle.fd_schema.specs.declared.rule.Version.TheVariants.{One, Two}

-- what a rule wants of a name: that a key has it, nothing, or that the key has it with one of these values
pub data Want : Type 0 where
  Needed : Want
  Optional : Want
  OneOf : (values : List (List ℕ)) → Want

-- a name of a rule
pub record Item : Type 0 where
  pub level : Level
  pub name : List ℕ
  pub want : Want

abbrev pub same_level : Level → Level → Bool
same_level Dataset Dataset = true
same_level Index Index = true
same_level Datum Datum = true
same_level a b = false

-- a rule: the version of its schema, and its names from left to right, each with its level
pub record Rule : Type 0 where
  pub version : Version
  pub items : List Item

-- ---- which keys a rule admits

-- what the rule wants of a name goes with the text that the key has for it
abbrev pub suits : Want → Option (List ℕ) → Bool
suits Needed text = is_some text
suits Optional text = true
suits (OneOf values) None = false
suits (OneOf values) (Some text) = list_any (bytes_eq text) values

abbrev pub suits_key : List Pair → Item → Bool
suits_key key item = suits item.want (text_of key item.name)

-- the rule has the name
abbrev pub has_name : List Item → List ℕ → Bool
has_name items name = list_any (λ i. bytes_eq i.name name) items

-- in version 1 `number` and `stat` have no meaning, and no rule admits a key with either
abbrev pub has_meaning : Version → List ℕ → Bool
has_meaning One name = not (bytes_eq name (codes "number") || bytes_eq name (codes "stat"))
has_meaning Two name = true

-- a name of the key has a meaning, and is in the rule
abbrev pub is_known : Rule → Pair → Bool
is_known rule p = has_meaning rule.version p.0 && has_name rule.items p.0

-- All required names are in the key, each restricted one has one of its values, and all names of the key are in the rule.
abbrev pub admits : Rule → List Pair → Bool
admits rule key = list_all (suits_key key) rule.items && list_all (is_known rule) key

-- ---- the place of a key

-- the pair of a name, if the key has it
abbrev pub pair_if : List ℕ → Option (List ℕ) → List Pair
pair_if name None = []
pair_if name (Some text) = (name, text) ∷ []

-- the pairs of one level that the key has, in the rule's order
unfoldable pub level_pairs : Level → List Item → List Pair → List Pair
level_pairs level [] key = []
level_pairs level (i ∷ is) key = (if same_level i.level level then pair_if i.name (text_of key i.name) else []) ++ level_pairs level is key

-- the text of one level: `name=value` pairs joined by commas
abbrev pub level_text : Level → List Item → List Pair → List ℕ
level_text level items key = key_text (level_pairs level items key)

-- a pair as it stands in the text of its level: the first alone, a later one behind a comma
abbrev pub pair_behind : Bool → Pair → List ℕ
pair_behind true p = pair_text p
pair_behind false p = 44 ∷ pair_text p

-- a rule's number, from 0, and the texts of its three levels
pub record Texts : Type 0 where
  pub rule : ℕ
  pub dataset : List ℕ
  pub index : List ℕ
  pub datum : List ℕ

-- the key of a place in the files of its dataset: the index text, a vertical line, the datum text
abbrev pub file_key : Texts → List ℕ
file_key t = t.index ++ 124 ∷ t.datum

-- the texts of a place are short: its dataset has at most 255 bytes, its key in the files at most 256
pub record IsShort (t : Texts) : Type 0 where
  pub dataset : length t.dataset ≤ 255
  pub key : length (file_key t) ≤ 256

abbrev pub texts_of : ℕ → Rule → List Pair → Texts
texts_of number rule key = record {
  rule = number;
  dataset = level_text Dataset rule.items key;
  index = level_text Index rule.items key;
  datum = level_text Datum rule.items key;
}

-- the place by the first rule that admits the key; the first of these rules has this number
unfoldable pub place_from : ℕ → List Rule → List Pair → Option Texts
place_from number [] key = None
place_from number (r ∷ rs) key = if admits r key then Some (texts_of number r key) else place_from (number + 1) rs key
