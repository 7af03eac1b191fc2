-- Why `cubes` prints no cubes of the keys that match.
use Rattle.std.specs.Prelude.{ℕ, Bool, List, [], ◌∷◌, length, nat_lt, option_map, Option, Some, None, if◌then◌else◌}
use Rattle.std.specs.List.{list_any}
use Rattle.fd_key.specs.Pairs.{Pair}
use Rattle.fd_request.specs.Grammar.{is_range_word}
use Rattle.fd_stored.specs.Causes.{Cause, NoRequest, TooManyKeys}
use Rattle.fd_outcome.specs.Matching.{Keys}

-- one of the values is a word of ranges, `to` or `by`
abbrev pub is_ranged : List Pair → Bool
is_ranged key = list_any (λ p. is_range_word p.1) key

-- the first key with such a value
abbrev pub first_ranged : Keys → Option (List Pair)
first_ranged [] = None
first_ranged (k ∷ ks) = if is_ranged k then Some k else first_ranged ks

-- more keys than a request may have, or else the first that no request can name
abbrev pub keys_refusal : Keys → Option Cause
keys_refusal ks = if nat_lt 262144 (length ks) then Some TooManyKeys else option_map NoRequest (first_ranged ks)
