-- What the code's keywords are.
use Rattle.std.specs.Prelude.{◌≡◌, ℕ, Bool, true, not, ◌&&◌, List, [], ◌∷◌, ◌++◌, map, String, string_bytes}
use Rattle.std.specs.declared.alloc.Global.{Global}
use Rattle.std.specs.BTreeSet.{BTreeSet, contains_text}
use Rattle.fd_request.specs.declared.keyword.Keyword as code_keyword
use Rattle.fd_request.specs.Expansion.{Keyword}
use Rattle.fd_request.specs.Grammar.{has_name}
use Rattle.fd_request.specs.Values.{seen_values}

abbrev pub seen_keyword : code_keyword.Keyword → Keyword
seen_keyword k = record { name = string_bytes k.name; values = seen_values k.values }

abbrev pub seen_keywords : List code_keyword.Keyword → List Keyword
seen_keywords ks = map seen_keyword ks

-- no name comes twice, nor is a name of the keywords before
abbrev pub differ_after : List Keyword → List Keyword → Bool
differ_after before [] = true
differ_after before (k ∷ ks) = not (has_name before k.name) && differ_after (before ++ k ∷ []) ks

-- the set has the names of the keywords, and no others
abbrev pub AreNames : BTreeSet (String Global) → List code_keyword.Keyword → Type 0
AreNames names ks = (name : List ℕ) → contains_text names name ≡ has_name (seen_keywords ks) name
