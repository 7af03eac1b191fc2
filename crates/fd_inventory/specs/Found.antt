-- Keys that are asked for, while they are looked for: each once, and at most one more than a request may have.
use Rattle.std.specs.Prelude.{◌≡◌, ◌≢◌, ◌≤◌, ◌<◌, ◌⊎◌, ℕ, true, List, [], ◌∷◌, length, map, nat_lt, Some, String, if◌then◌else◌}
use Rattle.std.specs.BTreeSet.{BTreeSet, contains_text}
use Rattle.std.specs.List.{All, AllPairs}
use Rattle.std.specs.declared.alloc.Global.{Global}
use Rattle.fd_spelling.specs.Names.{is_name, is_value}
use Rattle.fd_key.specs.Pairs as keys
use Rattle.fd_key.specs.Pairs.{key_text}
use Rattle.fd_spelling.specs.Texts.{spelled}
use Rattle.fd_request.specs.Keywords.{differ_after}
use Rattle.fd_cubes.specs.Cubes.{alone}
use Rattle.fd_inventory.specs.Shown.{Kept, kept, shown}
use Rattle.fd_stored.specs.Distinct.{is_among}
use Rattle.fd_outcome.specs.Matching.{Keys, with_key}
use Rattle.fd_outcome.specs.Rows.{Row, stored_at}

-- a name, and a value in its one spelling
pub record IsSpelled (p : keys.Pair) : Type 0 where
  pub named : is_name p.0 ≡ true
  pub valued : is_value p.1 ≡ true
  pub again : spelled p.0 p.1 ≡ Some p.1

-- each name once, and each value in its one spelling
pub record AreSpelled (ps : List keys.Pair) : Type 0 where
  pub once : differ_after [] (alone ps) ≡ true
  pub spelled : All IsSpelled ps

-- A key that files may have: each name comes once, each value is in its one spelling, and its text is short.
pub record IsNamed (key : List keys.Pair) : Type 0 where
  pub once : differ_after [] (alone key) ≡ true
  pub spelled : All IsSpelled key
  pub short : length (key_text key) ≤ 255

-- the set has the texts of the keys, and no others
abbrev pub AreTexts : BTreeSet (String Global) → Keys → Type 0
AreTexts texts ks = (text : List ℕ) → contains_text texts text ≡ is_among (map key_text ks) text

-- what holds of keys that were found, and of the set of their texts
pub record AreFound (ks : Keys) (texts : BTreeSet (String Global)) : Type 0 where
  pub has : AreTexts texts ks
  pub named : All IsNamed ks
  pub apart : AllPairs (λ a b. a ≢ b) ks

-- the keys, and one more, unless there are too many
abbrev pub keep : Keys → List keys.Pair → Keys
keep ks k = if nat_lt 262144 (length ks) then ks else with_key ks k

-- and those of rows
abbrev pub keep_rows : Keys → List Row → Keys
keep_rows ks [] = ks
keep_rows ks (r ∷ rs) = keep_rows (keep ks r.key.pairs) rs

-- What is kept of keys: all of them, or too many.
abbrev pub Keeps : Keys → Keys → Type 0
Keeps kept all = (kept ≡ all) ⊎ ((262144 < length kept) × (262144 < length all))

-- the row's key is that of its texts, which are short
pub record HasKey (dataset : List ℕ) (r : Row) : Type 0 where
  pub is : stored_at dataset r.key.index r.key.datum ≡ Some r.key
  pub index : length r.key.index ≤ 256
  pub datum : length r.key.datum ≤ 256

abbrev pub HaveKeys : List ℕ → List Row → Type 0
HaveKeys dataset [] = Unit {0}
HaveKeys dataset (r ∷ rs) = HasKey dataset r × HaveKeys dataset rs

-- Of rows, these are left: the keys of the others were kept.
pub record AreLeft (dataset : List ℕ) (found now : Keys) (es : List Kept) (rs : List Row) : Type 0 where
  pub left : List Row
  pub have : HaveKeys dataset left
  pub shown_are : map kept es ≡ map shown left
  pub kept_are : keep_rows now left ≡ keep_rows found rs
