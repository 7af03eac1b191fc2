-- The keys of a store that a partial request asks for, each once.
use Rattle.std.specs.Prelude.{ℕ, List, [], ◌∷◌, ◌++◌, map, if◌then◌else◌}
use Rattle.fd_entries.specs.declared.batch.Pair.{Pair}
use Rattle.fd_key.specs.Pairs as keys
use Rattle.fd_key.specs.Pairs.{key_text}
use Rattle.fd_request.specs.Expansion.{Keyword}
use Rattle.fd_stored.specs.Distinct.{is_among}
use Rattle.fd_outcome.specs.Rows.{Row, rows}

abbrev pub Keys : Type 0
Keys = List (List keys.Pair)

-- the keys, and this one behind them, unless one of them has its text
abbrev pub with_key : Keys → List keys.Pair → Keys
with_key ks k = if is_among (map key_text ks) (key_text k) then ks else ks ++ k ∷ []

-- and those of rows
abbrev pub with_rows : Keys → List Row → Keys
with_rows ks [] = ks
with_rows ks (r ∷ rs) = with_rows (with_key ks r.key.pairs) rs

-- and those of a dataset with this table that are asked for, in the order of `list`
unfoldable pub with_dataset : List Keyword → List ℕ → List (List Pair) → Keys → Keys
with_dataset keywords dataset t ks = with_rows ks (rows dataset keywords t)

-- and those of datasets with these tables, one after the other
abbrev pub with_tables : List Keyword → List (List ℕ) → List (List (List Pair)) → Keys → Keys
with_tables keywords [] ts ks = ks
with_tables keywords (name ∷ names) [] ks = ks
with_tables keywords (name ∷ names) (t ∷ ts) ks = with_tables keywords names ts (with_dataset keywords name t ks)

-- the keys of datasets with these tables that are asked for, in the order of `list`
abbrev pub matching : List Keyword → List (List ℕ) → List (List (List Pair)) → Keys
matching keywords names ts = with_tables keywords names ts []
