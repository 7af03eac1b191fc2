-- What a request is answered over layers.
use Rattle.std.specs.Prelude.{ℕ, ◌+◌, List, [], ◌∷◌, ◌++◌, map, filter, nat_lt, option_map, Option, Some, None, Result, Ok, Err, if◌then◌else◌}
use Rattle.fd_disk.specs.Folders.{Holdings}
use Rattle.fd_entries.specs.Batches.{newest}
use Rattle.fd_entries.specs.declared.batch.Pair as batches
use Rattle.fd_key.specs.Pairs.{Pair}
use Rattle.fd_layers.specs.Based.{based}
use Rattle.fd_layers.specs.Tables.{laid}
use Rattle.fd_request.specs.Expansion.{expand}
use Rattle.fd_schema.specs.Rules.{Rule, Texts, file_key, place_from}
use Rattle.fd_outcome.specs.Asking.{Answer, Tables, ◌then◌, all_answers, request_in, rules_of}
use Rattle.fd_stored.specs.Distinct.{count_distinct}
use Rattle.fd_stored.specs.Causes.{Cause, NoLayer, NoRule, TooManyDatasets}
use Rattle.fd_stored.specs.Store.{has_table}

-- ---- the keys with their places

-- a key that is asked for, its place, and its places under the layers, the nearest first
pub record Laid : Type 0 where
  pub key : List Pair
  pub place : Texts
  pub under : List Texts

abbrev pub under_before : ℕ → Option Texts → Result (List Texts) ℕ → Result (List Texts) ℕ
under_before n None others = Err n
under_before n (Some place) (Ok places) = Ok (place ∷ places)
under_before n (Some place) (Err m) = Err m

-- the places of a key under these layers, the first of which has this number, or the number of the first under which it has none
abbrev pub under_from : ℕ → List Rule → List Pair → List (List Pair) → Result (List Texts) ℕ
under_from n rules key [] = Ok []
under_from n rules key (layer ∷ layers) = under_before n (based rules key layer) (under_from (n + 1) rules key layers)

abbrev pub laid_at : List Pair → Texts → Result (List Texts) ℕ → Result Laid Cause
laid_at key place (Ok under) = Ok (record { key = key; place = place; under = under })
laid_at key place (Err n) = Err (NoLayer n key)

-- a key has a place, and then one under each layer
abbrev pub laid_key : List Rule → List (List Pair) → List Pair → Option Texts → Result Laid Cause
laid_key rules layers key None = Err (NoRule key)
laid_key rules layers key (Some place) = laid_at key place (under_from 1 rules key layers)

abbrev pub laid_before : Result Laid Cause → Result (List Laid) Cause → Result (List Laid) Cause
laid_before (Ok a) (Ok others) = Ok (a ∷ others)
laid_before (Ok a) (Err cause) = Err cause
laid_before (Err cause) others = Err cause

-- the keys with their places, or why the first key that lacks one is refused
abbrev pub all_laid : List Rule → List (List Pair) → List (List Pair) → Result (List Laid) Cause
all_laid rules layers [] = Ok []
all_laid rules layers (key ∷ keys) = laid_before (laid_key rules layers key (place_from 0 rules key)) (all_laid rules layers keys)

-- ---- the datasets that are opened

-- the places of a key, the nearest first: its own, and those under the layers
abbrev pub places_under : Laid → List Texts
places_under a = a.place ∷ a.under

-- the places of all keys
abbrev pub all_places : List Laid → List Texts
all_places [] = []
all_places (a ∷ asked) = places_under a ++ all_places asked

abbrev pub laid_datasets : List Laid → List (List ℕ)
laid_datasets asked = map (λ p. p.dataset) (all_places asked)

-- of the datasets, those that have a table are opened, at most 2,048
abbrev pub within_layers : Holdings → List Laid → Result (List Laid) Cause
within_layers h asked =
    if nat_lt 2048 (count_distinct (filter (has_table h) (laid_datasets asked))) then Err TooManyDatasets else Ok asked

-- what a request asks for of a store over layers, the nearest first, or why it is refused
abbrev pub laid_of : Holdings → List (List Pair) → List ℕ → Result (List Laid) Cause
laid_of h layers input =
    rules_of h.schema then λ rules.
    (request_in input then λ keywords.
    (all_laid rules layers (expand keywords) then λ asked.
    within_layers h asked))

-- ---- the answer

abbrev pub table_before : Option (List (List batches.Pair)) → Option (List (List (List batches.Pair))) → Option (List (List (List batches.Pair)))
table_before (Some t) (Some ts) = Some (t ∷ ts)
table_before (Some t) None = None
table_before None ts = None

-- the tables of the places' datasets, where none of them is damaged
abbrev pub tables_at : Tables → List Texts → Option (List (List (List batches.Pair)))
tables_at tables [] = Some []
tables_at tables (p ∷ ps) = table_before (tables p.dataset) (tables_at tables ps)

-- the newest bytes of the key in the nearest of its datasets that has it
abbrev pub laid_answer : Tables → Laid → Option Answer
laid_answer tables a = option_map (λ ts. record { key = a.key; found = newest (laid ts) (file_key a.place) }) (tables_at tables (places_under a))

-- each key's answer, in the order of the request
abbrev pub laid_answers : Tables → List Laid → Option (List Answer)
laid_answers tables [] = Some []
laid_answers tables (a ∷ asked) = all_answers (laid_answer tables a) (laid_answers tables asked)
