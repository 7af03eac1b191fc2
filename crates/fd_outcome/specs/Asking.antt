-- What a request is answered.
use Rattle.std.specs.Prelude.{ℕ, ◌+◌, Bool, List, [], ◌∷◌, ◌++◌, take, map, filter, codes, nat_lt, option_map, Option, Some, None, Result, Ok, Err, if◌then◌else◌}
use Rattle.std.specs.Fmt.{decimal}
use Rattle.fd_disk.specs.Folders.{Holdings}
use Rattle.fd_entries.specs.Batches.{newest}
use Rattle.fd_entries.specs.declared.batch.Pair as batches
use Rattle.fd_key.specs.Pairs.{Pair, key_text}
use Rattle.fd_schema.specs.Rules.{Rule, Texts, file_key, place_from}
use Rattle.fd_schema.specs.Grammar as schemas
use Rattle.fd_schema.specs.Grammar.{schema_of}
use Rattle.fd_request.specs.Expansion.{Keyword, expand}
use Rattle.fd_request.specs.Grammar as requests
use Rattle.fd_request.specs.Limits.{request_of, partial_of}
use Rattle.fd_listing.specs.Lines.{line}
use Rattle.fd_split.specs.Limits.{input_limit}
use Rattle.fd_stored.specs.Causes.{Cause, InStored, SchemaMissing, InRequest, NoRule, TooManyDatasets}
use Rattle.fd_stored.specs.Store.{has_table}
use Rattle.fd_stored.specs.Distinct.{count_distinct}

infixl 10 ◌then◌
abbrev pub ◌then◌ : {A B : Type 0} → Result A Cause → (A → Result B Cause) → Result B Cause
(Ok x) then f = f x
(Err e) then f = Err e

-- ---- the stored schema

abbrev pub stored_rules : List ℕ → Result (List Rule) schemas.Fault → Result (List Rule) Cause
stored_rules text (Ok rules) = Ok rules
stored_rules text (Err fault) = Err (InStored text fault)

-- the rules of the store's schema, or why there are none
abbrev pub rules_of : Option (List ℕ) → Result (List Rule) Cause
rules_of None = Err SchemaMissing
rules_of (Some text) = stored_rules text (schema_of text)

-- ---- the request

abbrev pub in_request : {A : Type 0} → Result A requests.Fault → Result A Cause
in_request (Ok x) = Ok x
in_request (Err fault) = Err (InRequest fault)

-- The keywords of the input, or its first place that is wrong. Of an input that is longer than an input may be, the
-- first octets are read, as many as it may have; they are too long for a request.
abbrev pub request_in : List ℕ → Result (List Keyword) Cause
request_in input = in_request (request_of (take input_limit input))

abbrev pub partial_in : List ℕ → Result (List Keyword) Cause
partial_in input = in_request (partial_of (take input_limit input))

-- a key that is asked for, and its place
pub record Asked : Type 0 where
  pub key : List Pair
  pub place : Texts

abbrev pub placed_before : List Pair → Option Texts → Result (List Asked) Cause → Result (List Asked) Cause
placed_before key None others = Err (NoRule key)
placed_before key (Some place) (Ok others) = Ok (record { key = key; place = place } ∷ others)
placed_before key (Some place) (Err cause) = Err cause

-- the keys with their places, or the first key that no rule admits
abbrev pub placed : List Rule → List (List Pair) → Result (List Asked) Cause
placed rules [] = Ok []
placed rules (key ∷ keys) = placed_before key (place_from 0 rules key) (placed rules keys)

-- ---- the datasets that are opened

abbrev pub datasets_of : List Asked → List (List ℕ)
datasets_of asked = map (λ a. a.place.dataset) asked

-- of the datasets, those that have a table are opened, at most 2,048
abbrev pub within_datasets : Holdings → List Asked → Result (List Asked) Cause
within_datasets h asked =
    if nat_lt 2048 (count_distinct (filter (has_table h) (datasets_of asked))) then Err TooManyDatasets else Ok asked

-- what a request asks for of a store, or why it is refused
abbrev pub asked_of : Holdings → List ℕ → Result (List Asked) Cause
asked_of h input =
    rules_of h.schema then λ rules.
    (request_in input then λ keywords.
    (placed rules (expand keywords) then λ asked.
    within_datasets h asked))

-- ---- the answer

-- the bytes that are found for a key, or a miss
pub record Answer : Type 0 where
  pub key : List Pair
  pub found : Option (List ℕ)

-- the tables of datasets, where they aren't damaged
abbrev pub Tables : Type 0
Tables = List ℕ → Option (List (List batches.Pair))

-- the newest bytes of the key in its dataset
abbrev pub answer : Tables → Asked → Option Answer
answer tables a = option_map (λ t. record { key = a.key; found = newest t (file_key a.place) }) (tables a.place.dataset)

abbrev pub all_answers : Option Answer → Option (List Answer) → Option (List Answer)
all_answers (Some a) (Some others) = Some (a ∷ others)
all_answers (Some a) None = None
all_answers None others = None

-- each key's answer, in the order of the request
abbrev pub answers : Tables → List Asked → Option (List Answer)
answers tables [] = Some []
answers tables (a ∷ asked) = all_answers (answer tables a) (answers tables asked)

abbrev pub bytes_or_none : Option (List ℕ) → List ℕ
bytes_or_none None = []
bytes_or_none (Some bytes) = bytes

-- what is found, one after the other
abbrev pub found_bytes : List Answer → List ℕ
found_bytes [] = []
found_bytes (a ∷ others) = bytes_or_none a.found ++ found_bytes others

abbrev pub miss_line : List Pair → Option (List ℕ) → List ℕ
miss_line key None = line (codes "miss " ++ key_text key)
miss_line key (Some bytes) = []

-- a line for each miss
abbrev pub miss_lines : List Answer → List ℕ
miss_lines [] = []
miss_lines (a ∷ others) = miss_line a.key a.found ++ miss_lines others

abbrev pub count_if : Option (List ℕ) → ℕ → ℕ → ℕ
count_if None found missed = missed
count_if (Some bytes) found missed = found

abbrev pub count_found : List Answer → ℕ
count_found [] = 0
count_found (a ∷ others) = count_if a.found 1 0 + count_found others

abbrev pub count_missed : List Answer → ℕ
count_missed [] = 0
count_missed (a ∷ others) = count_if a.found 0 1 + count_missed others

-- `found n missed m`
abbrev pub counts_line : List Answer → List ℕ
counts_line xs = line (codes "found " ++ decimal (count_found xs) ++ codes " missed " ++ decimal (count_missed xs))
