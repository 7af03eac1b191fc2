-- The text of a schema: each rule on a line, as `[a, b [c [d, e?]]]`, and before the first one its version, unless that is 1.
use Rattle.std.specs.Prelude.{ℕ, Bool, true, false, List, [], ◌∷◌, ◌++◌, codes, if◌then◌else◌}
use Rattle.fd_schema.specs.declared.rule.Level.{Level}
use Rattle.fd_schema.specs.declared.rule.Level.TheVariants.{Dataset, Index, Datum}
use Rattle.fd_schema.specs.declared.rule.Version.{Version}
use Rattle.fd_schema.specs.declared.rule.Version.TheVariants.{One, Two}
use Rattle.fd_schema.specs.Rules.{Want, Needed, Optional, OneOf, Item, Rule, same_level}

-- values with slashes between them; before the first there is none
unfoldable pub values_text : Bool → List (List ℕ) → List ℕ
values_text first [] = []
values_text first (v ∷ vs) = (if first then [] else codes "/") ++ v ++ values_text false vs

abbrev pub want_text : Want → List ℕ
want_text Needed = []
want_text Optional = codes "?"
want_text (OneOf values) = codes "=" ++ values_text true values

abbrev pub item_text : Item → List ℕ
item_text i = i.name ++ want_text i.want

-- the items of a level with commas between them; before the first there is none
unfoldable pub level_items_text : Bool → Level → List Item → List ℕ
level_items_text first level [] = []
level_items_text first level (i ∷ is) =
    if same_level i.level level
    then (if first then [] else codes ", ") ++ item_text i ++ level_items_text false level is
    else level_items_text first level is

abbrev pub rule_text : Rule → List ℕ
rule_text r =
    codes "[" ++ level_items_text true Dataset r.items ++ codes " [" ++ level_items_text true Index r.items ++ codes " [" ++ level_items_text true Datum r.items
    ++ codes "]]]" ++ 10 ∷ []

unfoldable pub rules_text : List Rule → List ℕ
rules_text [] = []
rules_text (r ∷ rs) = rule_text r ++ rules_text rs

abbrev pub version_text : Version → List ℕ
version_text One = []
version_text Two = codes "version 2" ++ 10 ∷ []

-- the rules of a schema have one version
abbrev pub version_line : List Rule → List ℕ
version_line [] = []
version_line (r ∷ rs) = version_text r.version

unfoldable pub schema_text : List Rule → List ℕ
schema_text rules = version_line rules ++ rules_text rules
