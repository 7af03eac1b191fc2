-- What `trial` stores, what it asks for, and what it finds.
use Rattle.std.specs.Prelude.{ℕ, ◌+◌, List, [], ◌∷◌, ◌++◌, length, map, codes, Option, Some, unwrap_or, Result, Ok, Err, if◌then◌else◌}
use Rattle.std.specs.Str.{bytes_eq}
use Rattle.std.specs.Fmt.{decimal}
use Rattle.fd_key.specs.Pairs as keys
use Rattle.fd_entries.specs.Batches.{of_batch}
use Rattle.fd_schema.specs.Rules.{Rule}
use Rattle.fd_schema.specs.Printed.{schema_text}
use Rattle.fd_listing.specs.Lines.{line}
use Rattle.fd_stored.specs.Causes.{Cause, SchemaDifferent}
use Rattle.fd_outcome.specs.Asking.{rules_of, bytes_or_none, count_if, ◌then◌}
use Rattle.fd_stored.specs.Archiving.{Stored, pairs_for}

-- the schema that is planted where there is none
abbrev pub trial_schema : List ℕ
trial_schema = codes "[class, expver, date, time [centre, type, levtype [param, step, levelist?]]]"

-- the pairs that each message is given
abbrev pub trial_given : List keys.Pair
trial_given = (codes "class", codes "od") ∷ (codes "expver", codes "0001") ∷ []

-- the rules, where they print as those of that schema do
abbrev pub if_trial : List Rule → Result (List Rule) Cause
if_trial rules = if bytes_eq (schema_text rules) (line trial_schema) then Ok rules else Err SchemaDifferent

-- the rules of the stored schema, or of the planted one where there is none, or why there are none
abbrev pub trial_rules : Option (List ℕ) → Result (List Rule) Cause
trial_rules schema = rules_of (Some (unwrap_or schema trial_schema)) then if_trial

-- what is found for a stored message's key, after one batch of all
abbrev pub trial_answer : List Stored → Stored → Option (List ℕ)
trial_answer all s = of_batch (pairs_for all s.dataset) s.pair.key

-- what is found for each stored message's key, in their order
abbrev pub trial_answers : List Stored → List (Option (List ℕ))
trial_answers all = map (trial_answer all) all

-- how many are found, how many octets these have, and how many are missed
pub record Tally : Type 0 where
  pub found : ℕ
  pub bytes : ℕ
  pub missed : ℕ

abbrev pub with_one : Option (List ℕ) → Tally → Tally
with_one x t = record { found = count_if x 1 0 + t.found; bytes = length (bytes_or_none x) + t.bytes; missed = count_if x 0 1 + t.missed }

abbrev pub tally_of : List (Option (List ℕ)) → Tally
tally_of [] = record { found = 0; bytes = 0; missed = 0 }
tally_of (x ∷ xs) = with_one x (tally_of xs)

-- `trial n found f bytes b missed m`
abbrev pub trial_line : ℕ → Tally → List ℕ
trial_line count t = line (codes "trial " ++ decimal count ++ codes " found " ++ decimal t.found ++ codes " bytes " ++ decimal t.bytes ++ codes " missed " ++ decimal t.missed)
