-- What stands ready for the answer of a request over layers.
use Rattle.std.specs.Prelude.{◌≡◌, ℕ, true, List, length, map, All, Result, Ok}
use Rattle.fd_disk.specs.Folders.{Holdings}
use Rattle.fd_key.specs.Pairs.{Pair}
use Rattle.fd_schema.specs.declared.place.Place.{Place}
use Rattle.fd_schema.specs.Reading.{seen_place}
use Rattle.fd_request.specs.Expansion.{Keyword, expand}
use Rattle.fd_outcome.specs.Asking.{request_in, rules_of, ◌then◌}
use Rattle.fd_stored.specs.Distinct.{is_among}
use Rattle.fd_stored.specs.Causes.{Cause}
use Rattle.fd_outcome.specs.Layered.{Laid, all_laid, laid_answers, laid_of}
use Rattle.fd_stored.specs.Store.{table_at}
use Rattle.fd_retrieve.specs.Open.{IsOpenIn, Open, names_of, table_in}
use Rattle.fd_retrieve.specs.Ready.{NoneIsDamaged}
use Rattle.fd_retrieve.specs.Tables.{datasets_in}
use Rattle.fd_layered.specs.Chains.{laid_by}

-- the keys that are asked for, with their places, or why there are none; how many datasets they have isn't looked at
abbrev pub laid_in : Holdings → List (List Pair) → List ℕ → Result (List Laid) Cause
laid_in h layers input = rules_of h.schema then λ rules. (request_in input then λ keywords. all_laid rules layers (expand keywords))

-- the keys of a request with these places, of which each key has one, and then one under each layer
abbrev pub laid_with : List (List Pair) → List Keyword → List Place → List Laid
laid_with layers keywords places = laid_by (length layers) (expand keywords) (map seen_place places)

-- The request's keys have these places, and the datasets of the places that have tables are open, none of which is damaged.
pub record IsReady (h : Holdings) (layers : List (List Pair)) (input : List ℕ) (keywords : List Keyword) (places : List Place) (os : List Open) : Type 0 where
  pub asked : laid_of h layers input ≡ Ok (laid_with layers keywords places)
  pub answered : laid_answers (table_in os) (laid_with layers keywords places) ≡ laid_answers (table_at h) (laid_with layers keywords places)
  pub each : All (IsOpenIn h) os
  pub among : (n : List ℕ) → is_among (names_of os) n ≡ true → is_among (datasets_in places) n ≡ true
  pub tables : (n : List ℕ) → is_among (datasets_in places) n ≡ true → table_in os n ≡ table_at h n
  pub undamaged : NoneIsDamaged h (datasets_in places)
