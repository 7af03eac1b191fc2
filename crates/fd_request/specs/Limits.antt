-- Requests whole: the limits of their text, of their number of keys and of a key's text.
use Rattle.std.specs.Prelude.{ℕ, ◌*◌, max, List, [], ◌∷◌, length, map, codes, nat_lt, if◌then◌else◌, Option, Some, None, Result, Ok, Err}
use Rattle.fd_key.specs.Pairs.{Pair, key_text}
use Rattle.fd_request.specs.Expansion.{Keyword, expand}
use Rattle.fd_request.specs.Grammar.{Fault, ◌>>=◌, wrong, TooLong, TooMany, KeyTooLong, keywords_of}

-- The product of the counts, taken keyword by keyword, where it first passes 262,144. Before the first keyword it is this.
unfoldable pub too_many : ℕ → List Keyword → Option ℕ
too_many product [] = None
too_many product (k ∷ ks) =
    if nat_lt 262144 (product * length k.values) then Some (product * length k.values) else too_many (product * length k.values) ks

-- how long the longest of these texts is
unfoldable pub longest_text : List (List ℕ) → ℕ
longest_text [] = 0
longest_text (t ∷ ts) = max (length t) (longest_text ts)

-- how long the longest text of these keys is
abbrev pub longest_key : List (List Pair) → ℕ
longest_key keys = longest_text (map key_text keys)

-- at most 262,144 keys, whose texts have at most 255 bytes
abbrev pub within_length : ℕ → ℕ → List Keyword → Result (List Keyword) Fault
within_length end len ks = if nat_lt 255 len then wrong end (KeyTooLong len) else Ok ks

abbrev pub within_count : ℕ → Option ℕ → List Keyword → Result (List Keyword) Fault
within_count end (Some count) ks = wrong end (TooMany count)
within_count end None ks = within_length end (longest_key (expand ks)) ks

unfoldable pub within_limits : ℕ → List Keyword → Result (List Keyword) Fault
within_limits end ks = within_count end (too_many 1 ks) ks

-- in a text over 65,536 bytes only what is wrong before that place comes first
abbrev pub too_long : Result (List Keyword) Fault → Result (List Keyword) Fault
too_long (Ok ks) = wrong 65536 TooLong
too_long (Err f) = if nat_lt f.at 65536 then Err f else wrong 65536 TooLong

unfoldable pub within_size : ℕ → Result (List Keyword) Fault → Result (List Keyword) Fault
within_size size read = if nat_lt 65536 size then too_long read else read

-- the keywords of a request, or the first place that is wrong
unfoldable pub request_of : List ℕ → Result (List Keyword) Fault
request_of text = within_size (length text) (keywords_of (codes "retrieve") text >>= λ ks. within_limits (length text) ks)

-- the keywords of a partial request
unfoldable pub partial_of : List ℕ → Result (List Keyword) Fault
partial_of text = within_size (length text) (keywords_of (codes "list") text)
