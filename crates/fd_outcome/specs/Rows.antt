-- The stored keys of a dataset, as `list`, `axes` and `stats` print them.
use Rattle.std.specs.Prelude.{ℕ, ◌+◌, Bool, false, ◌&&◌, List, [], ◌∷◌, ◌++◌, length, drop, codes, nat_le, is_some, Option, Some, None, unwrap_or, if◌then◌else◌}
use Rattle.std.specs.List.{list_all, list_any}
use Rattle.std.specs.Str.{bytes_eq}
use Rattle.std.specs.Fmt.{decimal}
use Rattle.std.specs.Ordering.{nat_cmp, ordering_then}
use Rattle.std.specs.declared.cmp.Ordering.{Ordering}
use Rattle.std.specs.declared.cmp.Ordering.TheVariants.{Less, Equal, Greater}
use Rattle.std.specs.Cmp.Lexicographic.{slice_cmp}
use Rattle.fd_spelling.specs.Names.{is_name}
use Rattle.fd_spelling.specs.Canonical.{canonical}
use Rattle.fd_spelling.specs.Numerals.{cut, ◌>>=◌}
use Rattle.fd_key.specs.Given.{pieces_of}
use Rattle.fd_key.specs.Pairs as keys
use Rattle.fd_key.specs.Pairs.{text_of, key_text}
use Rattle.fd_entries.specs.declared.batch.Pair.{Pair}
use Rattle.fd_entries.specs.declared.table.Entry.{Entry}
use Rattle.fd_entries.specs.Batches.{or_older, newest, has_key}
use Rattle.fd_spelling.specs.Texts.{is_ascii}
use Rattle.fd_request.specs.Expansion.{Keyword}
use Rattle.fd_listing.specs.Lines.{blank, line}

-- ---- the pairs of a stored key

abbrev pub is_spelled : List ℕ → Option (List ℕ) → Bool
is_spelled text None = false
is_spelled text (Some spelled) = bytes_eq text spelled

-- a name and a value in its one spelling, with `=` between them
abbrev pub if_pair : Option (List ℕ × List ℕ) → Option keys.Pair
if_pair None = None
if_pair (Some p) = if is_name p.0 && is_spelled p.1 (canonical p.0 p.1) then Some p else None

-- the pairs, and one more whose name they don't have
abbrev pub if_new : List keys.Pair → Option keys.Pair → Option (List keys.Pair)
if_new before None = None
if_new before (Some p) = if is_some (text_of before p.0) then None else Some (before ++ p ∷ [])

-- the pairs, and that of one piece of a text
unfoldable pub with_piece : List keys.Pair → List ℕ → Option (List keys.Pair)
with_piece before piece = if_new before (if_pair (cut 61 piece))

-- the pairs, and those of each piece, where no name comes twice
unfoldable pub with_pieces : List keys.Pair → List (List ℕ) → Option (List keys.Pair)
with_pieces before [] = Some before
with_pieces before (piece ∷ pieces) = with_piece before piece >>= λ more. with_pieces more pieces

-- the pairs, and those that a text is, joined by commas
abbrev pub with_text : List keys.Pair → List ℕ → Option (List keys.Pair)
with_text before text = with_pieces before (pieces_of text)

-- A stored key: the texts of its index and its datum, the pairs of its datum, and those of all three levels.
pub record Stored : Type 0 where
  pub index : List ℕ
  pub datum : List ℕ
  pub datum_pairs : List keys.Pair
  pub pairs : List keys.Pair

abbrev pub if_short : List ℕ → List ℕ → List keys.Pair → List keys.Pair → Option Stored
if_short index datum is us =
    if nat_le (length (key_text us)) 255
    then Some (record { index = index; datum = datum; datum_pairs = drop (length is) us; pairs = us })
    else None

unfoldable pub stored_at : List ℕ → List ℕ → List ℕ → Option Stored
stored_at dataset index datum = with_text [] dataset >>= λ ds. with_text ds index >>= λ is. with_text is datum >>= λ us. if_short index datum is us

-- What a key in the files of a dataset is, which has at most 256 bytes: an index text, a vertical line and a datum text, in
-- ASCII, of pairs in their one spelling, which with the dataset's have no name twice and at most 255 bytes. No request asks
-- for another one.
unfoldable pub stored : List ℕ → List ℕ → Option Stored
stored dataset key = if nat_le (length key) 256 && is_ascii key then (cut 124 key >>= λ p. stored_at dataset p.0 p.1) else None

-- ---- which keys a partial request asks for

abbrev pub is_one_of : List (List ℕ) → Option (List ℕ) → Bool
is_one_of values None = false
is_one_of values (Some text) = list_any (bytes_eq text) values

-- the key has each of the names, with one of the values
abbrev pub matches : List Keyword → List keys.Pair → Bool
matches keywords key = list_all (λ k. is_one_of k.values (text_of key k.name)) keywords

-- ---- rows

-- a line of `list`: the key, the length of its newest bytes, and the number of the batch that has them
pub record Row : Type 0 where
  pub key : Stored
  pub len : ℕ
  pub number : ℕ

-- the number of the last batch that has the key; the first has this number
abbrev pub newest_number : ℕ → List (List Pair) → List ℕ → Option ℕ
newest_number n [] key = None
newest_number n (b ∷ bs) key = or_older (newest_number (n + 1) bs key) (if has_key b key then Some n else None)

abbrev pub row_of : List (List Pair) → List ℕ → Stored → Row
row_of t key s = record { key = s; len = length (unwrap_or (newest t key) []); number = unwrap_or (newest_number 1 t key) 0 }

abbrev pub order : List ℕ → List ℕ → Ordering
order a b = slice_cmp nat_cmp a b

-- by index text, and then by datum text
abbrev pub row_order : Row → Row → Ordering
row_order a b = ordering_then (order a.key.index b.key.index) (order a.key.datum b.key.datum)

abbrev pub put_by : {A : Type 0} → Ordering → A → A → List A → List A → List A
put_by Less x y ys others = x ∷ (y ∷ ys)
put_by Equal x y ys others = y ∷ ys
put_by Greater x y ys others = y ∷ others

-- the element in its place in the order, unless it is there
abbrev pub put : {A : Type 0} → (A → A → Ordering) → A → List A → List A
put order x [] = x ∷ []
put order x (y ∷ ys) = put_by (order x y) x y ys (put order x ys)

abbrev pub put_matching : List Keyword → List (List Pair) → List ℕ → Option Stored → List Row → List Row
put_matching keywords t key None rows = rows
put_matching keywords t key (Some s) rows = if matches keywords s.pairs then put row_order (row_of t key s) rows else rows

abbrev pub rows_of_batch : List ℕ → List Keyword → List (List Pair) → List Pair → List Row → List Row
rows_of_batch dataset keywords t [] rows = rows
rows_of_batch dataset keywords t (p ∷ ps) rows = put_matching keywords t p.key (stored dataset p.key) (rows_of_batch dataset keywords t ps rows)

abbrev pub rows_from : List ℕ → List Keyword → List (List Pair) → List (List Pair) → List Row
rows_from dataset keywords t [] = []
rows_from dataset keywords t (b ∷ bs) = rows_of_batch dataset keywords t b (rows_from dataset keywords t bs)

-- a row for each key of the table's batches that is asked for, in order
abbrev pub rows : List ℕ → List Keyword → List (List Pair) → List Row
rows dataset keywords t = rows_from dataset keywords t t

-- ---- `list`

abbrev pub row_line : List ℕ → Row → List ℕ
row_line dataset r = line (dataset ++ blank (r.key.index ++ blank (r.key.datum ++ blank (decimal r.len ++ blank (decimal r.number)))))

abbrev pub row_lines : List ℕ → List Row → List ℕ
row_lines dataset [] = []
row_lines dataset (r ∷ rs) = row_line dataset r ++ row_lines dataset rs

-- The lines of `list` for a dataset with this table.
unfoldable pub list_text : List Keyword → List ℕ → List (List Pair) → List ℕ
list_text keywords dataset t = row_lines dataset (rows dataset keywords t)

-- ---- `axes`

-- the rows of an index text
abbrev pub of_index : List ℕ → List Row → List Row
of_index index [] = []
of_index index (r ∷ rs) = if bytes_eq r.key.index index then r ∷ of_index index rs else of_index index rs

abbrev pub indexes : List Row → List (List ℕ)
indexes [] = []
indexes (r ∷ rs) = put order r.key.index (indexes rs)

abbrev pub put_names : List keys.Pair → List (List ℕ) → List (List ℕ)
put_names [] names = names
put_names (p ∷ ps) names = put order p.0 (put_names ps names)

-- the names in the datum texts
abbrev pub names_in : List Row → List (List ℕ)
names_in [] = []
names_in (r ∷ rs) = put_names r.key.datum_pairs (names_in rs)

abbrev pub put_value : Option (List ℕ) → List (List ℕ) → List (List ℕ)
put_value None values = values
put_value (Some value) values = put order value values

-- the values of a name in the datum texts
abbrev pub values_in : List ℕ → List Row → List (List ℕ)
values_in name [] = []
values_in name (r ∷ rs) = put_value (text_of r.key.datum_pairs name) (values_in name rs)

abbrev pub more_values : List (List ℕ) → List ℕ
more_values [] = []
more_values (v ∷ vs) = 47 ∷ v ++ more_values vs

-- values with slashes between them
abbrev pub values_text : List (List ℕ) → List ℕ
values_text [] = []
values_text (v ∷ vs) = v ++ more_values vs

abbrev pub axis_lines : List ℕ → List ℕ → List Row → List (List ℕ) → List ℕ
axis_lines dataset index rs [] = []
axis_lines dataset index rs (name ∷ names) =
    line (dataset ++ blank (index ++ blank (name ++ 61 ∷ values_text (values_in name rs)))) ++ axis_lines dataset index rs names

abbrev pub index_lines : List ℕ → List Row → List (List ℕ) → List ℕ
index_lines dataset rs [] = []
index_lines dataset rs (index ∷ others) =
    axis_lines dataset index (of_index index rs) (names_in (of_index index rs)) ++ index_lines dataset rs others

-- The lines of `axes` for a dataset with this table.
unfoldable pub axes_text : List Keyword → List ℕ → List (List Pair) → List ℕ
axes_text keywords dataset t = let rs = rows dataset keywords t in index_lines dataset rs (indexes rs)

-- ---- `stats`

abbrev pub put_keys : List Pair → List (List ℕ) → List (List ℕ)
put_keys [] ks = ks
put_keys (p ∷ ps) ks = put order p.key (put_keys ps ks)

-- the distinct keys of the batches
abbrev pub keys_in : List (List Pair) → List (List ℕ)
keys_in [] = []
keys_in (b ∷ bs) = put_keys b (keys_in bs)

abbrev pub sum_fields : List Entry → ℕ
sum_fields [] = 0
sum_fields (e ∷ es) = e.fields + sum_fields es

abbrev pub sum_bytes : List Entry → ℕ
sum_bytes [] = 0
sum_bytes (e ∷ es) = e.fields_len + sum_bytes es

-- The line of `stats` for a dataset with these entries and this table.
unfoldable pub stats_text : List ℕ → List Entry → List (List Pair) → List ℕ
stats_text dataset es t = line (dataset ++ codes " entries " ++ decimal (length es) ++ codes " fields " ++ decimal (sum_fields es)
    ++ codes " keys " ++ decimal (length (keys_in t)) ++ codes " bytes " ++ decimal (sum_bytes es))
